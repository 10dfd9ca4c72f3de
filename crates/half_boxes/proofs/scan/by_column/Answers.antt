use Rattle.std.proofs.Common.{rules}
use Rattle.lists.proofs.Sorting.{AllPairs-from_sort}
use Rattle.half_boxes.specs.declared.scan.Numbered.{Numbered}
use Rattle.half_boxes.proofs.NumberLaws.{AreNumbered-permutation}
use Rattle.half_boxes.proofs.scan.by_column.Goals as goal

pub returns-clause-numbered : goal.returns-clause-numbered
returns-clause-numbered c = AreNumbered-permutation c.args.boxes.now c.in_ok-entries.entries.items _ c.sort_unstable_by_key.ensures.permutation c.in_ok-entries.ensures.numbered

pub returns-clause-ordered : goal.returns-clause-ordered
returns-clause-ordered c = AllPairs-from_sort (λ (e : Numbered). e.one.columns.low) _ c.sort_unstable_by_key.ensures.sorted (λ a r q k. search rules)
