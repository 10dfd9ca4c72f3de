use Rattle.std.proofs.Common.{ℕ, ◌⊎◌, take, Contains}
use Rattle.flatten.specs.inside.Marks.{IsMarked, targets_among}
use Rattle.flatten.proofs.marks.mark_targets.Given as goal

abbrev pub invariant-loop-element : goal.invariant-loop-element
invariant-loop-element l = record {
  kept : (one : ℕ) → IsMarked l.fn.marks one → IsMarked l.marks one;
  marked : (one : ℕ) → Contains (targets_among l.index (take l.element-index l.elements)) one → IsMarked l.marks one;
  only : (one : ℕ) → IsMarked l.marks one → IsMarked l.fn.marks one ⊎ Contains (targets_among l.index (take l.element-index l.elements)) one;
}
