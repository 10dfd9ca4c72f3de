use Rattle.std.proofs.Common.{rules}
use Rattle.lists.proofs.Words.{IfOk-weaker}
use Rattle.outlines.proofs.SweepLaws.{balanced_moved, by_row_from_sort, cover_moved}
use Rattle.outlines.proofs.sweep.fill_turns.Goals as goal

pub sweep_up-requires-clause-by_row : goal.sweep_up-requires-clause-by_row
sweep_up-requires-clause-by_row c = rw c.as_slice.ensures.value (by_row_from_sort _ c.sort_unstable_by_key.ensures.sorted (λ a r q k. search rules))

pub sweep_up-requires-clause-balanced : goal.sweep_up-requires-clause-balanced
sweep_up-requires-clause-balanced c = rw c.as_slice.ensures.value (balanced_moved c.args.turns.items _ c.sort_unstable_by_key.ensures.permutation c.requires)

pub returns : goal.returns
returns c = IfOk-weaker c.sweep_up.result _ _ (λ rects. cover_moved c.args.turns.items _ c.sort_unstable_by_key.ensures.permutation rects.items) (rw c.as_slice.ensures.value at c.sweep_up.ensures)
