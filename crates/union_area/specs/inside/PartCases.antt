-- what is left of a part of a window with the rectangles of a list
use Rattle.std.specs.Prelude.{List, IfSome, ◌↔◌}
use Rattle.geo_core.specs.Plane.{Has, IsInUnion}
use Rattle.geo_core.specs.declared.plane.Cell.{Cell}
use Rattle.geo_core.specs.declared.plane.Rect.{Rect}
use Rattle.union_area.specs.PartRects.{AreRectsOf}
use Rattle.union_area.specs.WindowParts.{AreParts}
use Rattle.union_area.specs.declared.part_case.PartCase.{PartCase}
use Rattle.union_area.specs.declared.part_case.PartCase.TheVariants.{Nothing, All, Runs, Across, Halves}

-- the second list has the cells of the first one that lie in the part
abbrev pub HasCellsIn : List Rect → Rect → List Rect → Type 0
HasCellsIn rects part inside = (c : Cell) → IsInUnion inside c ↔ (IsInUnion rects c × Has part c)

-- no cell of the part lies in a rectangle, or each does; or their cells of the part are those of the rectangles that the answer
-- has, and what it has besides are two parts of the part
abbrev pub IsRestOf : List Rect → Rect → PartCase → Type 0
IsRestOf rects part Nothing = (c : Cell) → Has part c → IsInUnion rects c → ⊥
IsRestOf rects part All = (c : Cell) → Has part c → IsInUnion rects c
IsRestOf rects part (Runs runs) = AreRectsOf (IsInUnion rects) part runs.items
IsRestOf rects part (Across inside halves) = HasCellsIn rects part inside.items × IfSome halves (λ two. AreParts part two.0 two.1)
IsRestOf rects part (Halves inside first second) = HasCellsIn rects part inside.items × AreParts part first second
