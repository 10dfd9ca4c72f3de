-- boxes of half squares: which half squares they have, and which of them touch
use Rattle.std.specs.Prelude.{ℕ, List, Contains, Option, Some, None, slice_get, ◌≡◌, ◌⊎◌}
use Rattle.geo_core.specs.Plane.{IsIn}
use Rattle.geo_core.specs.declared.axis.Axis.{Axis}
use Rattle.geo_core.specs.declared.axis.Axis.TheVariants.{X, Y}
use Rattle.geo_core.specs.declared.plane.Half.{Half}
use Rattle.fault_model.specs.FaultNames.{Neighbours}
use Rattle.half_boxes.specs.declared.boxes.HalfBox.{HalfBox}
use Rattle.half_boxes.specs.declared.span.HalfSpan.{HalfSpan}

-- the half units of the box along the axis: its columns, or its rows
abbrev pub span_along : Axis → HalfBox → HalfSpan
span_along X one = one.columns
span_along Y one = one.rows

-- the half square lies in the box
pub record HasHalf (one : HalfBox) (h : Half) : Type 0 where
  pub across : IsIn one.columns.low one.columns.high h.u
  pub up : IsIn one.rows.low one.rows.high h.v

-- it lies in the box, where there is one
abbrev pub HasHalfIn : Option HalfBox → Half → Type 0
HasHalfIn None h = ⊥
HasHalfIn (Some one) h = HasHalf one h

-- a box of the list has it
pub record IsInBoxes (boxes : List HalfBox) (h : Half) : Type 0 where
  pub one : HalfBox
  pub among : Contains boxes one
  pub has : HasHalf one h

-- each half square of the one box lies in the other
abbrev pub LiesWithin : HalfBox → HalfBox → Type 0
LiesWithin one other = (h : Half) → HasHalf one h → HasHalf other h

-- the least box in which both lie
pub record IsBoxJoin (one other joined : HalfBox) : Type 0 where
  pub first : LiesWithin one joined
  pub second : LiesWithin other joined
  pub least : (box : HalfBox) → LiesWithin one box → LiesWithin other box → LiesWithin joined box

-- the boxes have a half square in common
abbrev pub OverlapHalves : HalfBox → HalfBox → Type 0
OverlapHalves one other = (h : Half) × HasHalf one h × HasHalf other h

-- the boxes have a half square in common, or one half square each that share an edge
abbrev pub TouchHalves : HalfBox → HalfBox → Type 0
TouchHalves one other = (p q : Half) × HasHalf one p × HasHalf other q × ((p ≡ q) ⊎ Neighbours p q)

-- the boxes with these numbers, which are counted from 0, touch
pub record AreTouchingBoxes (boxes : List HalfBox) (a b : ℕ) : Type 0 where
  pub one : HalfBox
  pub other : HalfBox
  pub one_at : slice_get boxes a ≡ Some one
  pub other_at : slice_get boxes b ≡ Some other
  pub touch : TouchHalves one other
