use Rattle.std.proofs.Common.{Contains}
use Rattle.remnants.proofs.SpreadLaws.{AreGoing}
use Rattle.remnants.proofs.thinning.going_by.Given as goal

abbrev pub invariant-loop-pair : goal.invariant-loop-pair
invariant-loop-pair l = AreGoing l.listed (Contains l.loose) l.marks l.going l.gone.items
