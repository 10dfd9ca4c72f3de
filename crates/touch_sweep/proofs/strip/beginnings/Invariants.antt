use Rattle.std.proofs.Common.{◌≡◌, map, take}
use Rattle.geo_core.specs.declared.plane.Rect.{Rect}
use Rattle.touch_sweep.proofs.strip.beginnings.Given as goal

abbrev pub invariant-loop-rect : goal.invariant-loop-rect
invariant-loop-rect l = l.columns.items ≡ map (λ (rect : Rect). rect.x0) (take l.rect-index l.rects)
