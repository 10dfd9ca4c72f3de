use Rattle.area_parts.specs.LayerParts.{AreAllIslands}
use Rattle.area_parts.proofs.preparing.anchored_islands.Given as goal

abbrev pub invariant-loop-metal : goal.invariant-loop-metal
invariant-loop-metal l = AreAllIslands l.nets l.metal l.lists.items
