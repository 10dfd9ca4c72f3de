use Rattle.std.proofs.Common.{◌+◌, length}
use Rattle.half_boxes.specs.inside.Growths.{AreGrown}
use Rattle.half_boxes.proofs.growth.grown_links.Given as goal

abbrev pub invariant-loop-one : goal.invariant-loop-one
invariant-loop-one l = AreGrown l.boxes l.left.items l.front.items l.pairs.items

abbrev pub decreases-loop-one : goal.decreases-loop-one
decreases-loop-one l = length l.left.items + length l.front.items
