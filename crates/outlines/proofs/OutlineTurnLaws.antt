-- the edges of an outline as turns
use Rattle.std.proofs.Common.{◌+◌, ◌≡◌, refl, ap, subst, ◌∙◌, List, [], ◌∷◌, ◌++◌, arith, Bool, true, false, not, ℤ, ◌&&◌, int_le, All, count_by}
use Rattle.lists.proofs.Words.{zip, All-tail, sum_by_push, sum_by-cons}
use Rattle.geo_core.specs.declared.plane.Point.{Point}
use Rattle.geo_core.specs.Plane.{IsInRange}
use Rattle.outlines.specs.Outlines.{Edge, goes_up_across, goes_down_across}
use Rattle.outlines.specs.inside.OutlineTurns.{edges_down, edges_up}
use Rattle.outlines.specs.inside.OutlineTurns.{AddsTurnsOf, AreTurnsOf, falls_at, falls_below, rises_at, rises_below}
use Rattle.outlines.specs.declared.turn.Turn.{Turn}
use Rattle.outlines.proofs.EdgeLaws.{edges_next}
use Rattle.outlines.proofs.FillingLaws.{one}
use Rattle.outlines.proofs.WindLaws.{lt_is_not_le}

-- ---- an edge

-- two turns in one column, of which the first rises
both_counted : (test : Turn → Bool) (before : List Turn) (up down : Turn) → count_by test (before ++ up ∷ [] ++ down ∷ []) ≡ count_by test before + one (test up) + one (test down)
both_counted test before up down =
    let first = sum_by_push (λ t. one (test t)) before up in
    let second = sum_by_push (λ t. one (test t)) (before ++ up ∷ []) down in
    omega (arith, first, second)

none_falls : (at : Bool) → one (at && false) ≡ 0
none_falls true = refl
none_falls false = refl

same_test : (at t : Bool) → one (at && true && t) ≡ one (at && t)
same_test true t = refl
same_test false t = refl

no_test : (at t : Bool) → one (at && false && t) ≡ 0
no_test true t = refl
no_test false t = refl

-- an edge begins and ends below a row, or goes across it
across : (at p q : Bool) → one (at && p) + one (at && (q && not p)) ≡ one (at && q) + one (at && (p && not q))
across false p q = refl
across true true true = refl
across true true false = refl
across true false true = refl
across true false false = refl

pub two_turns : (edge : Edge) (before : List Turn) (up down : Turn) → up.row ≡ edge.0.y → up.column ≡ edge.0.x → up.rises ≡ true → down.row ≡ edge.1.y → down.column ≡ edge.0.x → down.rises ≡ false
    → AddsTurnsOf edge before (before ++ up ∷ [] ++ down ∷ [])
two_turns edge before up down a b e f g h = record {
  across = λ at row.
      let t = at edge.0.x in let p = int_le edge.0.y row in let q = int_le edge.1.y row in
      let rise = both_counted (λ turn. rises_at at turn && int_le turn.row row) before up down in
      let fall = both_counted (λ turn. falls_at at turn && int_le turn.row row) before up down in
      let one_up : one (rises_at at up && int_le up.row row) ≡ one (t && p) = rw (a, b, e) (same_test t p) in
      let none_up : one (falls_at at up && int_le up.row row) ≡ 0 = rw (a, b, e) (no_test t p) in
      let one_down : one (falls_at at down && int_le down.row row) ≡ one (t && q) = rw (f, g, h) (same_test t q) in
      let none_down : one (rises_at at down && int_le down.row row) ≡ 0 = rw (f, g, h) (no_test t q) in
      let goes_up : one (t && goes_up_across row edge) ≡ one (t && (p && not q)) = ap (λ u. one (t && (p && u))) (lt_is_not_le row edge.1.y) in
      let goes_down : one (t && goes_down_across row edge) ≡ one (t && (q && not p)) = ap (λ u. one (t && (q && u))) (lt_is_not_le row edge.0.y) in
      omega (arith, rise, fall, one_up, none_up, one_down, none_down, goes_up, goes_down, across t p q);
  ended = λ at.
      let t = at edge.0.x in
      let rise = both_counted (rises_at at) before up down in
      let fall = both_counted (falls_at at) before up down in
      let same : one (rises_at at up) + one (rises_at at down) ≡ one (falls_at at up) + one (falls_at at down) = rw (b, e, g, h) (swap t) in
      omega (arith, rise, fall, same);
} where
  swap : (t : Bool) → one (t && true) + one (t && false) ≡ one (t && false) + one (t && true)
  swap true = refl
  swap false = refl

pub no_turns : (edge : Edge) (before : List Turn) → edge.0.y ≡ edge.1.y → AddsTurnsOf edge before before
no_turns edge before level = record {
  across = λ at row.
      let same : one (at edge.0.x && goes_down_across row edge) ≡ one (at edge.0.x && goes_up_across row edge) = rw level refl in
      omega (arith, same);
  ended = λ at. omega arith;
}

-- ---- all edges, one after the other

-- The turns are those of the edges but for the ones that are left, and the points between which these lead are in range.
pub record AreTurnsBut (froms tos : List Point) (edges : List Edge) (turns : List Turn) : Type 0 where
  pub across : (at : ℤ → Bool) (row : ℤ) →
      rises_below at row turns + edges_down at row edges + edges_up at row (zip froms tos) ≡ falls_below at row turns + edges_up at row edges + edges_down at row (zip froms tos)
  pub ended : (at : ℤ → Bool) → count_by (rises_at at) turns ≡ count_by (falls_at at) turns
  pub froms_in_range : All IsInRange froms
  pub tos_in_range : All IsInRange tos

module _ (froms tos : List Point) (edges : List Edge) where
  pub none_turned : zip froms tos ≡ edges → All IsInRange froms → All IsInRange tos → AreTurnsBut froms tos edges []
  none_turned all from_range to_range = record {
    across = λ at row. let up = ap (edges_up at row) all in let down = ap (edges_down at row) all in omega (arith, up, down);
    ended = λ at. refl;
    froms_in_range = from_range;
    tos_in_range = to_range;
  }

  -- the next edge is added
  pub one_more_edge : (froms' tos' : List Point) (from to : Point) (before after : List Turn) → froms ≡ from ∷ froms' → tos ≡ to ∷ tos'
      → AddsTurnsOf (from, to) before after → AreTurnsBut froms tos edges before → AreTurnsBut froms' tos' edges after
  one_more_edge froms' tos' from to before after e f adds so_far =
      let next = edges_next froms tos froms' tos' from to e f in
      record {
        across = λ at row.
            let ups : edges_up at row (zip froms tos) ≡ one (at from.x && goes_up_across row (from, to)) + edges_up at row (zip froms' tos') =
            ap (edges_up at row) next ∙ sum_by-cons (λ edge. one (at edge.0.x && goes_up_across row edge)) (from, to) (zip froms' tos') in
            let downs : edges_down at row (zip froms tos) ≡ one (at from.x && goes_down_across row (from, to)) + edges_down at row (zip froms' tos') =
            ap (edges_down at row) next ∙ sum_by-cons (λ edge. one (at edge.0.x && goes_down_across row edge)) (from, to) (zip froms' tos') in
            omega (arith, adds.across at row, so_far.across at row, ups, downs);
        ended = λ at. omega (arith, adds.ended at, so_far.ended at);
        froms_in_range = All-tail IsInRange from froms' (subst (All IsInRange) e so_far.froms_in_range);
        tos_in_range = All-tail IsInRange to tos' (subst (All IsInRange) f so_far.tos_in_range);
      }

  pub all_edges : (turns : List Turn) → zip froms tos ≡ [] → AreTurnsBut froms tos edges turns → AreTurnsOf edges turns
  all_edges turns none so_far = record {
    across = λ at row.
        let up : edges_up at row (zip froms tos) ≡ 0 = ap (edges_up at row) none in
        let down : edges_down at row (zip froms tos) ≡ 0 = ap (edges_down at row) none in
        omega (arith, so_far.across at row, up, down);
    ended = so_far.ended;
  }
