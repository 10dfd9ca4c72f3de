use Rattle.flatten.specs.inside.Marks.{AreUnmarked}
use Rattle.flatten.proofs.tops.unmarked.Given as goal

abbrev pub invariant-loop-number : goal.invariant-loop-number
invariant-loop-number l = AreUnmarked l.marks l.number l.numbers.items
