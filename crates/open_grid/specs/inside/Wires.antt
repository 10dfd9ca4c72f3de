-- which defects part anchors of a wire: an island of one rectangle
use Rattle.std.specs.Prelude.{ℤ, pos, ℕ, List, [], ◌∷◌, Contains, ◌+ℤ◌, ◌-ℤ◌, ◌≤ℤ◌, ◌≡◌, ◌⊎◌, ◌↔◌}
use Rattle.geo_core.specs.Plane.{Has, IsInUnion}
use Rattle.geo_core.specs.declared.axis.Axis.{Axis}
use Rattle.geo_core.specs.declared.axis.Axis.TheVariants.{X, Y}
use Rattle.geo_core.specs.declared.plane.Cell.{Cell}
use Rattle.geo_core.specs.declared.plane.Rect.{Rect}
use Rattle.fault_model.specs.FaultNames.{IslandLists, IsInFootprint}
use Rattle.fault_model.specs.IslandLists.{IsAnchoredIsland}
use Rattle.half_boxes.specs.HalfBoxes.{span_along}
use Rattle.half_boxes.specs.declared.boxes.HalfBox.{HalfBox}
use Rattle.severing.specs.Severing.{IsSevered}
use Rattle.union_area.specs.WindowParts.{place_along}
use Rattle.open_grid.specs.inside.ZoneNeeds.{HaveAnchorBoxes}

-- ---- along one axis

-- where the defect of this side at the place begins, in half units, and where it ends
abbrev pub low_end : ℤ → ℕ → ℤ
low_end x side = x +ℤ x +ℤ pos 1 -ℤ pos side

abbrev pub high_end : ℤ → ℕ → ℤ
high_end x side = x +ℤ x +ℤ pos 1 +ℤ pos side

-- it begins at `low` or below it, and ends at `high` or above it
pub record Spans (low high : ℤ) (side : ℕ) (x : ℤ) : Type 0 where
  pub begins : low_end x side ≤ℤ low
  pub ends : high ≤ℤ high_end x side

-- the one number is the low end of a box of the list along the axis, and the other the high end of one
pub record AreEndsAmong (axis : Axis) (boxes : List HalfBox) (low high : ℤ) : Type 0 where
  pub low_of : HalfBox
  pub high_of : HalfBox
  pub low_among : Contains boxes low_of
  pub high_among : Contains boxes high_of
  pub low_is : (span_along axis low_of).low ≡ low
  pub high_is : (span_along axis high_of).high ≡ high

-- no box of the list has a higher low end than the one number, or a lower high end than the other
pub record BoundEnds (axis : Axis) (boxes : List HalfBox) (low high : ℤ) : Type 0 where
  pub no_higher : (one : HalfBox) → Contains boxes one → (span_along axis one).low ≤ℤ low
  pub no_lower : (one : HalfBox) → Contains boxes one → high ≤ℤ (span_along axis one).high

-- ---- in the plane

-- the other axis
abbrev pub other_axis : Axis → Axis
other_axis X = Y
other_axis Y = X

-- the defect of this side at the cell has all of one of the hulls, so that nothing of its spot is left
pub record LosesSome (hulls : List HalfBox) (side : ℕ) (c : Cell) : Type 0 where
  pub hull : HalfBox
  pub among : Contains hulls hull
  pub across : Spans hull.columns.low hull.columns.high side c.i
  pub up : Spans hull.rows.low hull.rows.high side c.j

-- Across the axis the defect has all of the wire, so that it leaves one part before it and one behind it. The first of two hulls has
-- nothing behind it, and the last nothing before it.
pub record Cuts (axis : Axis) (wire : HalfBox) (hulls : List HalfBox) (side : ℕ) (c : Cell) : Type 0 where
  pub first : HalfBox
  pub last : HalfBox
  pub first_among : Contains hulls first
  pub last_among : Contains hulls last
  pub along : Spans (span_along axis last).low (span_along axis first).high side (place_along axis c)
  pub through : Spans (span_along (other_axis axis) wire).low (span_along (other_axis axis) wire).high side (place_along (other_axis axis) c)

-- it does one of these
abbrev pub PartsWire : HalfBox → List HalfBox → ℕ → Cell → Type 0
PartsWire wire hulls side c = LosesSome hulls side c ⊎ (Cuts X wire hulls side c ⊎ Cuts Y wire hulls side c)

-- ---- islands, and rectangles of cells

-- the island is this rectangle alone, and the boxes are the hulls of its anchors' spots
pub record IsWire (wire : Rect) (hulls : List HalfBox) (island : IslandLists) : Type 0 where
  pub anchored : IsAnchoredIsland island
  pub alone : island.pieces ≡ wire ∷ []
  pub have_hulls : HaveAnchorBoxes island hulls

-- the rectangles have the cells of the window that are the centre of a defect that parts two anchors of the island
abbrev pub HaveSeveringCells : IslandLists → ℕ → Rect → List Rect → Type 0
HaveSeveringCells island side window rects = (c : Cell) → IsInUnion rects c ↔ (Has window c × IsSevered island (IsInFootprint c side))

-- the cell is one of the window, and the defect there reaches so far along both axes
pub record SpansBoth (window : Rect) (left right bottom top : ℤ) (side : ℕ) (c : Cell) : Type 0 where
  pub in_window : Has window c
  pub across : Spans left right side c.i
  pub up : Spans bottom top side c.j

-- the rectangles gain these cells, and no others
pub record GainsCells (gained : Cell → Type 0) (old new : List Rect) : Type 0 where
  pub cells : (c : Cell) → IsInUnion new c ↔ (IsInUnion old c ⊎ gained c)
