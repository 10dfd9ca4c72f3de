use Rattle.std.proofs.Common.{rules}
use Rattle.lists.proofs.Words.{dedup_is}
use Rattle.net_extract.proofs.MeetingLaws.{piece_eq, same_pieces}
use Rattle.net_extract.proofs.OnceLaws.{once_by_sort}
use Rattle.net_extract.proofs.meetings.each_once.Goals as goal

pub returns-clause-same : goal.returns-clause-same
returns-clause-same c = same_pieces c.args.contacts.items _ _ c.sort_unstable_by_key.ensures.permutation (dedup_is piece_eq _ _ c.dedup.ensures.filtered)

pub returns-clause-once : goal.returns-clause-once
returns-clause-once c = once_by_sort _ _ c.sort_unstable_by_key.ensures.sorted (λ a r q k. search rules) (dedup_is piece_eq _ _ c.dedup.ensures.filtered)
