use Rattle.std.proofs.Common.{arith}
use Rattle.lists.proofs.Words.{dedup_is, int_eq}
use Rattle.half_boxes.specs.inside.Ranks.{IsAnEnd}
use Rattle.half_boxes.proofs.RankLaws.{ends_are, ends_keep, ends_rise}
use Rattle.half_boxes.proofs.ranks.ends_along.Goals as goal

pub returns-clause-some : goal.returns-clause-some
returns-clause-some c =
    ends_are _ _ _ c.sort_unstable.ensures.permutation c.sort_unstable.ensures.sorted (dedup_is int_eq _ _ c.dedup.ensures.filtered) c.args.axis c.args.boxes.now
    (omega arith) c.in_ok-ends.ensures.all

pub returns-then-len-gt-MOST_ENDS-clause-none : goal.returns-then-len-gt-MOST_ENDS-clause-none
returns-then-len-gt-MOST_ENDS-clause-none c =
    let once = dedup_is int_eq _ _ c.dedup.ensures.filtered in
    record {
      ends = c.dedup.new.self.items;
      rising = ends_rise _ _ _ c.sort_unstable.ensures.permutation c.sort_unstable.ensures.sorted once;
      theirs = ends_keep _ _ _ c.sort_unstable.ensures.permutation c.sort_unstable.ensures.sorted once (IsAnEnd c.args.axis c.args.boxes.now) c.in_ok-ends.ensures.theirs;
      many = omega arith;
    }
