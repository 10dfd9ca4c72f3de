use Rattle.area_parts.specs.LayerParts.{AreAllBoxes}
use Rattle.area_parts.proofs.preparing.boxes_of_clusters.Given as goal

abbrev pub invariant-loop-cut : goal.invariant-loop-cut
invariant-loop-cut l = AreAllBoxes l.nets l.cut l.lists.items
