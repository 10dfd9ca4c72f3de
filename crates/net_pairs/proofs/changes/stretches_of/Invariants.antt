use Rattle.net_pairs.proofs.StretchLaws.{AreStretchesTo}
use Rattle.net_pairs.proofs.changes.stretches_of.Given as goal

abbrev pub invariant-loop-corner : goal.invariant-loop-corner
invariant-loop-corner l = AreStretchesTo l.window l.corners l.corner-index l.changes.items l.last
