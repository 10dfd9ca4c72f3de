use Rattle.net_pairs.proofs.CornerLaws.{AreGainsTo}
use Rattle.net_pairs.proofs.corners.added_up.Given as goal

abbrev pub invariant-loop-corner : goal.invariant-loop-corner
invariant-loop-corner l = AreGainsTo l.sorted l.corner-index l.corners.items l.last
