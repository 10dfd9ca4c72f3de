-- labels that tell islands apart
use Rattle.std.specs.Prelude.{ℕ, List, Some, slice_get, ◌≡◌, ◌↔◌}
use Rattle.geo_core.specs.declared.plane.Half.{Half}
use Rattle.geo_core.specs.declared.plane.Rect.{Rect}
use Rattle.fault_model.specs.FaultNames.{IsAt, IsSameIsland}
use Rattle.geo_core.specs.Plane.{IsInUnion}

-- half squares in two of the rectangles are of one island exactly where the labels of the two are the same; islands are
-- those of all that the rectangles cover
abbrev pub LabelsAreIslands : List Rect → List ℕ → Type 0
LabelsAreIslands rects labels =
    (i k m m' : ℕ) (p q : Half) → slice_get labels i ≡ Some m → slice_get labels k ≡ Some m' →
    IsAt rects i p → IsAt rects k q → m ≡ m' ↔ IsSameIsland (IsInUnion rects) p q
