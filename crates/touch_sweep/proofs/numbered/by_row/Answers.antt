use Rattle.std.proofs.Common.{rules}
use Rattle.touch_sweep.proofs.EntrySteps.{AreNumbered-permutation, IsByRow-from_sort}
use Rattle.touch_sweep.proofs.numbered.by_row.Goals as goal

pub returns-clause-numbered : goal.returns-clause-numbered
returns-clause-numbered c = AreNumbered-permutation c.args.rects.now c.in_ok-entries.entries.items _ c.sort_unstable_by_key.ensures.permutation c.in_ok-entries.ensures.numbered

pub returns-clause-ordered : goal.returns-clause-ordered
returns-clause-ordered c = IsByRow-from_sort _ c.sort_unstable_by_key.ensures.sorted (λ a r q k. search rules)
