-- what is left of a part of a window: which of its cells lie in zones of two labels
use Rattle.std.specs.Prelude.{List, ◌↔◌}
use Rattle.geo_core.specs.Plane.{Has, IsInUnion}
use Rattle.geo_core.specs.declared.plane.Cell.{Cell}
use Rattle.geo_core.specs.declared.plane.Labelled.{Labelled}
use Rattle.geo_core.specs.declared.plane.Rect.{Rect}
use Rattle.skyline_runs.specs.Runs.{IsInTwo}
use Rattle.short_area.specs.Zones.{IsInTwoLabels}
use Rattle.short_area.specs.inside.AreaSteps.{IsCentralCut}
use Rattle.short_area.specs.inside.ZonesNearCells.{HaveNoThird}
use Rattle.short_area.specs.declared.part_case.PartCase.{PartCase}
use Rattle.short_area.specs.declared.part_case.PartCase.TheVariants.{Nothing, All, InOne, InTwo, InBoth, InHalves}

-- none of its cells do, or all of them, or those in the rectangles, or those in two of the rectangles; or there are no labels but
-- these; or the place at which it is halved is a central one
abbrev pub IsLeftOf : List Labelled → Rect → PartCase → Type 0
IsLeftOf zones part Nothing = (c : Cell) → Has part c → IsInTwoLabels zones c → ⊥
IsLeftOf zones part All = (c : Cell) → Has part c → IsInTwoLabels zones c
IsLeftOf zones part (InOne rects) = (c : Cell) → Has part c → IsInUnion rects.items c ↔ IsInTwoLabels zones c
IsLeftOf zones part (InTwo rects) = (c : Cell) → Has part c → IsInTwo rects.items c ↔ IsInTwoLabels zones c
IsLeftOf zones part (InBoth one other) = HaveNoThird zones one other
IsLeftOf zones part (InHalves axis place hopeless) = IsCentralCut zones part axis place
