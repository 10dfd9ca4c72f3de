-- the tallies over the tiles of a window add up to the tally over the window
use Rattle.std.proofs.Common.{ℕ, zero, suc, ◌+◌, ◌<◌, ◌≤◌, ◌≡◌, sym, ap, ◌∙◌, subst, List, take, take_all, arith, inl, inr, ◌⊎◌, sum}
use Rattle.lists.proofs.Words.{cases_lt, get_or_from_slice_get}
use Rattle.std.proofs.lemmas.List.Sums.{sum_by_more}
use Rattle.lists.proofs.Containing.{some_item}
use Rattle.geo_core.specs.Plane.{Has}
use Rattle.geo_core.specs.declared.plane.Cell.{Cell}
use Rattle.geo_core.specs.declared.plane.Rect.{Rect}
use Rattle.fault_model.specs.FaultNames.{Tally, cells_of}
use Rattle.fault_model.proofs.CellLaws.{Contains-cells_of}
use Rattle.fault_model.proofs.PartTallies.{Tally-either, tally_of_part}
use Rattle.fault_model.proofs.TallyLaws.{Tally-none, Tally-same}
use Rattle.tile_plan.specs.Tiles.{IsInTile, IsTile, tile_count}
use Rattle.tile_plan.specs.TileTallies.{AreTalliesOfTiles, IsInFirstTiles, IsTallyOfFirst}
use Rattle.tile_plan.specs.declared.tiles.TilePlan.{TilePlan}
use Rattle.tile_plan.proofs.TileLaws.{one_tile, some_tile}

-- a tile has cells of the window alone
pub tile_in_window : (plan : TilePlan) (k : ℕ) (tile : Rect) → IsTile plan k tile → (c : Cell) → Has tile c → Has plan.window c
tile_in_window plan k tile is c h = ((is.cells c).0 h).in_window

module _ {P : Cell → Type 0} (plan : TilePlan) where
  pub no_tile : IsTallyOfFirst P plan 0 0
  no_tile = record { tally = Tally-none (cells_of plan.window) (λ c listed h. let less = h.1.1 in absurd (omega arith)) }

  pub next_tile : (k m n : ℕ) (tile : Rect) → k < tile_count plan → IsTile plan k tile → IsTallyOfFirst P plan k m → Tally P (cells_of tile) n → IsTallyOfFirst P plan (k + 1) (m + n)
  next_tile k m n tile less is first t = record {
    tally = Tally-same (cells_of plan.window) (m + n) (λ c listed. (there c, back c))
        (Tally-either (cells_of plan.window) m n apart first.tally (tally_of_part plan.window tile n (tile_in_window plan k tile is) t));
  } where
    apart : (c : Cell) → P c × IsInFirstTiles plan k c → P c × Has tile c → ⊥
    apart c h l = let e = one_tile plan h.1.0 k c h.1.2 ((is.cells c).0 l.1) in let before = h.1.1 in absurd (omega (arith, e))

    there : (c : Cell) → (P c × IsInFirstTiles plan k c) ⊎ (P c × Has tile c) → P c × IsInFirstTiles plan (k + 1) c
    there c (inl (p, (j, before, lies))) = (p, (j, omega arith, lies))
    there c (inr (p, h)) = (p, (k, omega arith, (is.cells c).0 h))

    back : (c : Cell) → P c × IsInFirstTiles plan (k + 1) c → (P c × IsInFirstTiles plan k c) ⊎ (P c × Has tile c)
    back c (p, (j, before, lies)) = elim (cases_lt j k) [
      | inl l ↦ inl (p, (j, l, lies))
      | inr l ↦ let e : j ≡ k = omega arith in inr (p, (is.cells c).1 (subst (λ i. IsInTile plan i c) e lies))
    ]

  pub all_tiles : (n : ℕ) → IsTallyOfFirst P plan (tile_count plan) n → Tally P (cells_of plan.window) n
  all_tiles n first = Tally-same (cells_of plan.window) n (λ c listed. ((λ h. h.0), λ p. (p, some_tile plan c ((Contains-cells_of plan.window c).0 listed)))) first.tally

  module _ (amounts : List ℕ) (are : AreTalliesOfTiles P plan amounts) where
    first_tiles : (k : ℕ) → k ≤ tile_count plan → IsTallyOfFirst P plan k (sum (take k amounts))
    first_tiles zero some = no_tile
    first_tiles (suc k) less =
        let long = are.one_each in
        let item = some_item amounts k (omega arith) in
        let here = are.each k item.0 item.1 in
        let more : sum (take (k + 1) amounts) ≡ sum (take k amounts) + item.0 =
        sum_by_more (λ n. n) amounts k item.0 (omega arith) ∙ ap (λ n. sum (take k amounts) + n) (get_or_from_slice_get amounts k item.0 item.0 item.1) in
        let next = next_tile k (sum (take k amounts)) item.0 here.tile (omega arith) here.is_tile (first_tiles k (omega arith)) here.tally in
        let e : k + 1 ≡ suc k = omega arith in
        subst (λ j. IsTallyOfFirst P plan j (sum (take j amounts))) e (subst (IsTallyOfFirst P plan (k + 1)) (sym more) next)

    pub sum_of_tiles : Tally P (cells_of plan.window) (sum amounts)
    sum_of_tiles = let long = are.one_each in
        all_tiles (sum amounts) (subst (λ xs. IsTallyOfFirst P plan (tile_count plan) (sum xs)) (take_all (tile_count plan) amounts (omega arith)) (first_tiles (tile_count plan) (omega arith)))
