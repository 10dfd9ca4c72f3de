-- edges that are doubled until there are few tiles
use Rattle.std.proofs.Common.{ℕ, zero, suc, ◌*◌, ◌^◌, ◌<◌, ◌≤◌, ◌≡◌, sym, ap, ◌∙◌, subst, arith, inl, inr, ℤ}
use Rattle.lists.proofs.Words.{ints, cases_lt, mul-le}
use Rattle.std.proofs.Math.Nat.{pow-suc}
use Rattle.geo_core.specs.declared.plane.Rect.{Rect}
use Rattle.tile_plan.specs.TilesAlong.{AreTilesAlong}
use Rattle.tile_plan.specs.Tiles.{HasFewTiles, IsDoubledEdge}
use Rattle.tile_plan.specs.declared.tiles.TilePlan.{TilePlan}
use Rattle.tile_plan.proofs.AlongLaws.{edge_of_many, same_count}

-- the same tiles by equal ends
pub tiles_at : {low high : ℤ} {edge count : ℕ} (low' high' : ℤ) → AreTilesAlong low high edge count → low ≡ low' → high ≡ high' → AreTilesAlong low' high' edge count
tiles_at low' high' tiles e f = let a = tiles.reach in let b = tiles.needed in record { reach = omega (arith, ints); needed = omega (arith, ints) }

module _ (window : Rect) (edge columns rows : ℕ) (across : AreTilesAlong window.x0 window.x1 edge columns) (up : AreTilesAlong window.y0 window.y1 edge rows) where
  pub too_many : 1000000 < columns * rows → HasFewTiles window edge → ⊥
  too_many many tiles =
      let x = same_count window.x0 window.x1 edge columns across tiles.columns tiles.across in
      let y = same_count window.y0 window.y1 edge rows up tiles.rows tiles.up in
      let e : columns * rows ≡ tiles.columns * tiles.rows = ap (λ n. n * rows) x ∙ ap (λ n. tiles.columns * n) y in
      let least = tiles.few in
      absurd (omega (arith, e))

  -- an edge with which there are many tiles may be doubled
  pub doubles : 1000000 < columns * rows → edge * 2 ≤ 1000000000
  doubles many = elim (cases_lt 1000 columns) [
    | inl l ↦ let short = edge_of_many window.x0 window.x1 edge columns window.across across l in omega arith
    | inr l ↦ elim (cases_lt 1000 rows) [
      | inl m ↦ let short = edge_of_many window.y0 window.y1 edge rows window.up up m in omega arith
      | inr m ↦ let least = mul-le columns rows 1000 1000 l m in absurd (omega arith)
    ]
  ]

-- an edge that need not be doubled, and one that has to be
pub not_doubled : (window : Rect) (edge : ℕ) → HasFewTiles window edge → IsDoubledEdge window edge edge
not_doubled window edge tiles = record {
  doublings = 0;
  edge_is = let e : edge ≡ edge * 2 ^ 0 = omega arith in e;
  few = tiles;
  least = λ fewer less. absurd (omega arith);
}

twice : (n k : ℕ) → n * 2 * 2 ^ k ≡ n * 2 ^ suc k
twice n k = let e = pow-suc 2 k in rw e (omega arith)

pub doubled_once_more : (window : Rect) (given edge : ℕ) → (HasFewTiles window given → ⊥) → IsDoubledEdge window (given * 2) edge → IsDoubledEdge window given edge
doubled_once_more window given edge many doubled = record {
  doublings = suc doubled.doublings;
  edge_is = doubled.edge_is ∙ twice given doubled.doublings;
  few = doubled.few;
  least = least;
} where
  least : (fewer : ℕ) → fewer < suc doubled.doublings → HasFewTiles window (given * 2 ^ fewer) → ⊥
  least zero less tiles = let e : given * 2 ^ 0 ≡ given = omega arith in many (subst (HasFewTiles window) e tiles)
  least (suc n) less tiles = doubled.least n (omega arith) (subst (HasFewTiles window) (sym (twice given n)) tiles)

-- a plan with the given edge
pub plan_is : (window : Rect) (edge : ℕ) (plan : TilePlan) → plan.window ≡ window → plan.edge ≡ edge → IsDoubledEdge window edge plan.edge
plan_is window edge plan same also =
    subst (λ n. IsDoubledEdge window n plan.edge) also (subst (λ (r : Rect). IsDoubledEdge r plan.edge plan.edge) same (not_doubled plan.window plan.edge tiles)) where
      tiles : HasFewTiles plan.window plan.edge
      tiles = record { columns = plan.columns; rows = plan.rows; across = plan.across; up = plan.up; few = plan.few }
