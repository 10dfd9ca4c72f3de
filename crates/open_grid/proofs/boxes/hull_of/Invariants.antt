use Rattle.std.proofs.Common.{take, ◌∷◌, Contains}
use Rattle.geo_core.specs.declared.plane.Rect.{Rect}
use Rattle.open_grid.specs.inside.ZoneNeeds.{IsHullOf}
use Rattle.open_grid.proofs.boxes.hull_of.Given as goal

abbrev pub invariant-loop-rect : goal.invariant-loop-rect
invariant-loop-rect l = (first : Rect) × Contains l.rects first × IsHullOf (first ∷ take l.rect-index l.rects) l.hull
