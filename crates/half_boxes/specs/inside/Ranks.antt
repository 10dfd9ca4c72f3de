-- edges of boxes, replaced by their numbers among all edges in rising order
use Rattle.std.specs.Prelude.{ℕ, List, Some, All, AllPairs, Contains, length, slice_get, ℤ, pos, ◌≡◌, ◌<◌, ◌≤◌, ◌↔◌, ◌⊎◌, ◌<ℤ◌}
use Rattle.geo_core.specs.Plane.{Touch}
use Rattle.geo_core.specs.declared.axis.Axis.{Axis}
use Rattle.geo_core.specs.declared.interval.Interval.{Interval}
use Rattle.geo_core.specs.declared.plane.Rect.{Rect}
use Rattle.half_boxes.specs.HalfBoxes.{TouchHalves, span_along}
use Rattle.half_boxes.specs.declared.boxes.HalfBox.{HalfBox}
use Rattle.half_boxes.specs.declared.span.HalfSpan.{HalfSpan}

-- both ends of the span are in the list
pub record HasEnds (ends : List ℤ) (span : HalfSpan) : Type 0 where
  pub low : Contains ends span.low
  pub high : Contains ends span.high

-- the list rises, and no number of an item is past what an edge of a rectangle may be
pub record HaveRanks (ends : List ℤ) : Type 0 where
  pub rising : AllPairs (λ one later. one <ℤ later) ends
  pub few : length ends ≤ 1001000000

-- the rising list of the ends of all boxes along the axis
pub record AreEnds (axis : Axis) (boxes : List HalfBox) (ends : List ℤ) : Type 0 where
  pub rising : HaveRanks ends
  pub all : All (λ one. HasEnds ends (span_along axis one)) boxes

-- one of the boxes begins or ends at this place along the axis
pub record IsAnEnd (axis : Axis) (boxes : List HalfBox) (end : ℤ) : Type 0 where
  pub one : HalfBox
  pub among : Contains boxes one
  pub at : (end ≡ (span_along axis one).low) ⊎ (end ≡ (span_along axis one).high)

-- the boxes have more different ends along the axis than there are ranks
pub record AreCrowded (axis : Axis) (boxes : List HalfBox) : Type 0 where
  pub ends : List ℤ
  pub rising : AllPairs (λ one later. one <ℤ later) ends
  pub theirs : All (IsAnEnd axis boxes) ends
  pub many : 1001000000 < length ends

-- `rank` is the number, counted from 0, that the end has in the list
pub record IsRank (ends : List ℤ) (end rank : ℤ) : Type 0 where
  pub number : ℕ
  pub is : rank ≡ pos number
  pub at : slice_get ends number ≡ Some end

-- the interval is from the rank of the one end of the span to the rank of the other
pub record IsRankedSpan (ends : List ℤ) (span : HalfSpan) (ranks : Interval) : Type 0 where
  pub low : IsRank ends span.low ranks.low
  pub high : IsRank ends span.high ranks.high

-- the edges of the rectangle are the ranks of those of the box
pub record IsRankedBox (columns rows : List ℤ) (one : HalfBox) (rect : Rect) : Type 0 where
  pub left : IsRank columns one.columns.low rect.x0
  pub right : IsRank columns one.columns.high rect.x1
  pub bottom : IsRank rows one.rows.low rect.y0
  pub top : IsRank rows one.rows.high rect.y1

-- a rectangle for each box, of which two touch exactly where the two boxes do
pub record TouchAlike (boxes : List HalfBox) (rects : List Rect) : Type 0 where
  pub one_each : length rects ≡ length boxes
  pub alike : (a b : ℕ) (one other : HalfBox) (p q : Rect) → slice_get boxes a ≡ Some one → slice_get boxes b ≡ Some other
      → slice_get rects a ≡ Some p → slice_get rects b ≡ Some q → Touch p q ↔ TouchHalves one other
