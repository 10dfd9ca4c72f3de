use Rattle.std.proofs.Common.{take}
use Rattle.remnants.specs.inside.Joining.{AreMovedTo}
use Rattle.remnants.proofs.joining.moved_to.Given as goal

abbrev pub invariant-loop-mark : goal.invariant-loop-mark
invariant-loop-mark l = AreMovedTo l.leaders (take l.mark-index l.marks) l.moved.items
