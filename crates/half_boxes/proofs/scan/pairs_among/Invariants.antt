use Rattle.std.proofs.Common.{length}
use Rattle.half_boxes.specs.inside.Scans.{AreFound}
use Rattle.half_boxes.proofs.scan.pairs_among.Given as goal

abbrev pub invariant-loop-entry : goal.invariant-loop-entry
invariant-loop-entry l = AreFound l.entries l.left l.pairs.items

abbrev pub decreases-loop-entry : goal.decreases-loop-entry
decreases-loop-entry l = length l.left
