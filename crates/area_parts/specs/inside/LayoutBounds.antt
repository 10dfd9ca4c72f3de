-- the bounds of rectangles
use Rattle.std.specs.Prelude.{List, [], Option, Some, None, ◌≡◌}
use Rattle.geo_core.specs.Plane.{IsInLayout, IsInUnion}
use Rattle.geo_core.specs.declared.plane.Rect.{Rect}
use Rattle.fault_model.specs.FaultNames.{IsBoundsOf}

-- the bounds of what the rectangles cover, which lie within a layout: there are none exactly where there is no rectangle
abbrev pub AreBounds : List Rect → Option Rect → Type 0
AreBounds rects None = rects ≡ []
AreBounds rects (Some box) = IsBoundsOf (IsInUnion rects) box × IsInLayout box
