use Rattle.std.proofs.Common.{ℕ, ◌≡◌, ◌<◌, length, Contains}
use Rattle.flatten.specs.Structures.{targets_of}
use Rattle.flatten.specs.inside.Marks.{IsMarked}
use Rattle.flatten.proofs.marks.marks_of.Given as goal

abbrev pub invariant-loop-structure : goal.invariant-loop-structure
invariant-loop-structure l = record {
  long : length l.marks.items ≡ length l.structures;
  marked : (other one : ℕ) → other < l.structure-index → Contains (targets_of l.structures other) one → IsMarked l.marks.items one;
  only : (one : ℕ) → IsMarked l.marks.items one → (other : ℕ) × (other < l.structure-index) × Contains (targets_of l.structures other) one;
}
