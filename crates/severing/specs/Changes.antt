-- where a defect that moves along an axis comes to an edge, or past it
use Rattle.std.specs.Prelude.{ℤ, pos, ℕ, List, Contains, ◌+ℤ◌, ◌-ℤ◌, ◌<ℤ◌, ◌≤ℤ◌, ◌⊎◌, ◌↔◌}
use Rattle.geo_core.specs.Intervals.{IsWithin}
use Rattle.geo_core.specs.declared.plane.Half.{Half}
use Rattle.geo_core.specs.declared.plane.Rect.{Rect}
use Rattle.geo_core.specs.declared.axis.Axis.{Axis}
use Rattle.geo_core.specs.Plane.{Has, low_along, high_along}
use Rattle.fault_model.specs.FaultNames.{IslandLists, IsOn}
use Rattle.fault_model.specs.declared.island.Spot.{Spot}
use Rattle.half_boxes.specs.HalfBoxes.{HasHalf, span_along}
use Rattle.half_boxes.specs.Footprints.{IsReached, IsAlwaysHit}
use Rattle.half_boxes.specs.declared.boxes.HalfBox.{HalfBox}

-- along one axis the defect of this side at the place `x` is the first whose high end is at the edge or past it
pub record Reaches (edge : ℤ) (side : ℕ) (x : ℤ) : Type 0 where
  pub now : edge ≤ℤ (x +ℤ x +ℤ pos 1 +ℤ pos side)
  pub not_before : (x +ℤ x -ℤ pos 1 +ℤ pos side) <ℤ edge

-- it is the first whose low end is past the edge
pub record Passes (edge : ℤ) (side : ℕ) (x : ℤ) : Type 0 where
  pub now : edge <ℤ (x +ℤ x +ℤ pos 1 -ℤ pos side)
  pub not_before : (x +ℤ x -ℤ pos 1 -ℤ pos side) ≤ℤ edge

-- between the defect at the place before `x` and the one at `x`, an end comes to the edge or past it
abbrev pub IsChange : ℤ → ℕ → ℤ → Type 0
IsChange edge side x = Reaches edge side x ⊎ Passes edge side x

-- the defects of the zone change at the place, which is not their first one, at an end of the box
pub record ChangesAt (axis : Axis) (zone : Rect) (side : ℕ) (one : HalfBox) (x : ℤ) : Type 0 where
  pub behind_first : low_along axis zone <ℤ x
  pub before_end : x <ℤ high_along axis zone
  pub change : IsChange (span_along axis one).low side x ⊎ IsChange (span_along axis one).high side x

-- no half square of the box is one that a defect of the zone has, or shares an edge or a corner with one
abbrev pub IsFar : Rect → ℕ → HalfBox → Type 0
IsFar zone side one = (h g : Half) → HasHalf one h → IsReached zone side g → IsWithin h.u g.u (pos 1) → IsWithin h.v g.v (pos 1) → ⊥

-- each defect of the zone has all of the box
abbrev pub IsInCore : Rect → ℕ → HalfBox → Type 0
IsInCore zone side one = (h : Half) → HasHalf one h → IsAlwaysHit zone side h

-- a box has just the half squares of the set, and the list has it, or its ends do not matter to defects of the zone
pub record IsNoted (zone : Rect) (side : ℕ) (near : List HalfBox) (set : Half → Type 0) : Type 0 where
  pub one : HalfBox
  pub same : (h : Half) → HasHalf one h ↔ set h
  pub noted : Contains near one ⊎ (IsFar zone side one ⊎ IsInCore zone side one)

-- the list has the boxes of the rectangles of the island and of its spots, where their ends matter to defects of the zone
pub record HasNear (island : IslandLists) (zone : Rect) (side : ℕ) (near : List HalfBox) : Type 0 where
  pub pieces : (piece : Rect) → Contains island.pieces piece → IsNoted zone side near (IsOn (Has piece))
  pub anchors : (spot : Spot) (rect : Rect) → Contains island.anchors spot → Contains spot.rects rect →
      IsNoted zone side near (IsOn (Has rect))

-- at none of the boxes do the defects of the zone change along the axis
abbrev pub IsSteady : Axis → Rect → ℕ → List HalfBox → Type 0
IsSteady axis zone side near = (one : HalfBox) (x : ℤ) → Contains near one → ChangesAt axis zone side one x → ⊥
