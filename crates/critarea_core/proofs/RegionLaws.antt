-- how long region files are
use Rattle.std.proofs.Common.{ℕ, ◌≡◌, ◌+◌, ◌*◌, ◌≤◌, arith, List, [], ◌∷◌, length, Contains, ap, ◌∙◌}
use Rattle.lists.proofs.Words.{sum_by-cons}
use Rattle.geo_core.specs.declared.plane.Rect.{Rect}
use Rattle.fault_model.specs.FaultNames.{cells_of}
use Rattle.fault_model.proofs.CellLaws.{Contains-cells_of}
use Rattle.fault_model.proofs.UnionLaws.{corner_of}
use Rattle.lists.proofs.Containing.{Contains-none}
use Rattle.layout_regions.specs.Regions.{cell_count}
use Rattle.region_out.proofs.laws.RegionBytes.{bytes_long}
use Rattle.critarea_core.specs.Outputs.{IsRegionFile, region_room}

-- a list that has something is not empty
some_there : {X : Type 0} (xs : List X) (x : X) → Contains xs x → 1 ≤ length xs
some_there [] x h = absurd (Contains-none h)
some_there (y ∷ ys) x h = omega arith

-- a rectangle has a cell
rect_has_cell : (rect : Rect) → 1 ≤ length (cells_of rect)
rect_has_cell rect = let corner = corner_of rect in some_there (cells_of rect) corner.0 ((Contains-cells_of rect corner.0).1 corner.1)

-- so there are no more rectangles than they have cells
no_more_rects : (rects : List Rect) → length rects ≤ cell_count rects
no_more_rects [] = omega arith
no_more_rects (rect ∷ rects) =
    let sum = sum_by-cons (λ (one : Rect). length (cells_of one)) rect rects in
    let some = rect_has_cell rect in
    let rest = no_more_rects rects in
    omega (arith, sum, some, rest)

-- and no region file has more bytes than there is room for one
pub region_has_room : (units : List ℕ) (rects : List Rect) (text : List ℕ) (room : ℕ) → IsRegionFile units rects text → room ≡ region_room rects → length text ≤ room
region_has_room units rects text room is same =
    let long : length text ≡ 106 + 64 * length rects = ap length is.bytes ∙ bytes_long rects units is.fit in
    let few = no_more_rects rects in
    omega (arith, long, few, same)
