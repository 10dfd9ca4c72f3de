use Rattle.std.proofs.Common.{arith, rules}
use Rattle.lists.proofs.Sorting.{AllPairs-from_sort}
use Rattle.lists.proofs.Words.{ints}
use Rattle.half_boxes.specs.HalfBoxes.{IsInBoxes}
use Rattle.ring_test.specs.Rings.{hole_of}
use Rattle.ring_test.specs.declared.runs.Run.{Run}
use Rattle.ring_test.proofs.ToldLaws.{one_arc_told}
use Rattle.ring_test.proofs.rounds.boxes_have_one_arc.Goals as goal

pub merge-requires : goal.merge-requires
merge-requires c = rw c.deref.ensures.value (AllPairs-from_sort (λ (run : Run). run.from) _ c.sort_unstable_by_key.ensures.sorted (λ a r q k. search rules))

pub returns : goal.returns
returns c = one_arc_told (hole_of c.args.hole) (IsInBoxes c.args.boxes.now) c.in_ok-runs.runs.items c.sort_unstable_by_key.new.self.items c.in_ok-runs.ensures
    c.sort_unstable_by_key.ensures.permutation c.is_arc.result _ (omega (arith, ints)) (c.is_arc.ensures c.sort_unstable_by_key.new.self.items (rw c.deref.ensures.value at c.merge.ensures))
