use Rattle.via_clusters.proofs.CentreLaws.{AreCentresSoFar}
use Rattle.via_clusters.proofs.areas.centres_of.Given as goal

abbrev pub invariant-loop-covered : goal.invariant-loop-covered
invariant-loop-covered l = AreCentresSoFar l.boxes l.window l.r l.covered-index l.centres.items
