-- a closed outline crosses each row as often upwards as downwards, and its turns tell what lies inside
use Rattle.std.proofs.Common.{ℕ, ◌≡◌, ◌≢◌, sym, ap, ◌∙◌, List, ◌∷◌, arith, ℤ, pos, ◌-ℤ◌, ◌&&◌, ◌↔◌, int_le}
use Rattle.lists.proofs.Words.{ints}
use Rattle.geo_core.specs.declared.plane.Cell.{Cell}
use Rattle.geo_core.specs.declared.plane.Point.{Point}
use Rattle.geo_core.specs.declared.plane.Rect.{Rect}
use Rattle.geo_core.specs.Plane.{IsClosed}
use Rattle.outlines.specs.Fillings.{IsCover}
use Rattle.outlines.specs.Outlines.{IsInside, edges_of, goes_up_across, goes_down_across}
use Rattle.outlines.specs.inside.OutlineTurns.{AreBalanced, AreTurnsOf, IsWound, edges_down, edges_up, everywhere, up_to}
use Rattle.outlines.specs.declared.turn.Turn.{Turn}
use Rattle.outlines.proofs.WindLaws.{closed_rises, edges_counted, falls, lt_is_not_le, rises}

-- ---- as often up as down

pub closed_crosses : (points : List Point) (row : ℤ) → IsClosed points → edges_up everywhere row (edges_of points) ≡ edges_down everywhere row (edges_of points)
closed_crosses points row closed =
    let c : Cell = record { i = pos 0; j = row } in
    edges_counted c (goes_up_across row) rises (λ p q. ap (λ t. int_le p.y row && t) (lt_is_not_le row q.y)) points
    ∙ closed_rises points (closed.first ∷ closed.between) c closed.parts
    ∙ sym (edges_counted c (goes_down_across row) falls (λ p q. ap (λ t. int_le q.y row && t) (lt_is_not_le row p.y)) points)

pub turns_balanced : (points : List Point) (turns : List Turn) → IsClosed points → AreTurnsOf (edges_of points) turns → AreBalanced turns
turns_balanced points turns closed are = record {
  level = λ row. let same = closed_crosses points row closed in let across = are.across everywhere row in omega (arith, same, across);
  ended = are.ended;
}

-- ---- what is wound round lies inside

pub differ_by : (a b : ℕ) → (a ≢ b) ↔ (pos a -ℤ pos b ≢ pos 0)
differ_by a b = (λ d e. d (omega (arith, ints)), λ d e. d (omega (arith, ints)))

pub wound_is_inside : (points : List Point) (turns : List Turn) (rects : List Rect) → AreTurnsOf (edges_of points) turns → IsCover (IsWound turns) rects → IsCover (IsInside points) rects
wound_is_inside points turns rects are cover = record {
  same = λ c.
      let edges = edges_of points in
      let across = are.across (up_to c.i) c.j in
      let by = differ_by (edges_up (up_to c.i) c.j edges) (edges_down (up_to c.i) c.j edges) in
      (λ h. by.0 (λ e. (cover.same c).0 h (omega (arith, across, e))), λ differ. (cover.same c).1 (λ e. by.1 differ (omega (arith, across, e))));
  within = cover.within;
}
