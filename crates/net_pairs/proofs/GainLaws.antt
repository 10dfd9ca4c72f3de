-- what lists of cells by pairs gain
use Rattle.std.proofs.Common.{ℕ, ◌+◌, ◌<◌, ◌≤◌, ◌≡◌, ap, subst, List, [], ◌∷◌, ◌++◌, length, inl, inr, ◌↔◌, arith}
use Rattle.lists.proofs.Words.{sum_by_push}
use Rattle.geo_core.specs.Plane.{Has}
use Rattle.geo_core.specs.declared.plane.Cell.{Cell}
use Rattle.geo_core.specs.declared.plane.Rect.{Rect}
use Rattle.fault_model.specs.FaultNames.{Tally, cells_of}
use Rattle.fault_model.proofs.CellLaws.{Contains-cells_of}
use Rattle.fault_model.proofs.TallyLaws.{Tally-none, Tally-same}
use Rattle.net_pairs.specs.inside.PairGains.{GainsCells}
use Rattle.net_pairs.specs.inside.Sums.{cells_for, cells_if}
use Rattle.net_pairs.proofs.RestLaws.{rest_equal}
use Rattle.net_pairs.proofs.SumLaws.{Item, of_pair_or_not}

-- ---- any property

module _ (P Q : ℕ → ℕ → Cell → Type 0) (window : Rect) (old new : List Item) where
  -- properties that hold of the same cells of the window
  pub gains_same : ((one other : ℕ) (c : Cell) → Has window c → P one other c ↔ Q one other c) → GainsCells P window old new → GainsCells Q window old new
  gains_same same gains one other = let g = gains one other in
      record { cells = g.cells; tally = Tally-same (cells_of window) g.cells (λ c h. same one other c ((Contains-cells_of window c).0 h)) g.tally; sum = g.sum }

module _ (P : ℕ → ℕ → Cell → Type 0) (window : Rect) (old : List Item) where
  -- one that holds of no cell of the window
  pub gains_none : ((one other : ℕ) (c : Cell) → Has window c → P one other c → ⊥) → (new : List Item) → new ≡ old → GainsCells P window old new
  gains_none never new e one other = record {
    cells = 0;
    tally = Tally-none (cells_of window) (λ c h. never one other c ((Contains-cells_of window c).0 h));
    sum = rest_equal (let f = ap (cells_for one other) e in omega (arith, f));
  }

  -- one that holds of cells of one pair of labels alone
  pub gains_pair : (new : List Item) (a b cells : ℕ) → Tally (P a b) (cells_of window) cells → ((one other : ℕ) (c : Cell) → P one other c → (a ≡ one) × (b ≡ other))
      → new ≡ old ++ (a, b, cells) ∷ []
      → GainsCells P window old new
  gains_pair new a b cells tally only e one other =
      let push = sum_by_push (cells_if one other) old (a, b, cells) in
      let f = ap (cells_for one other) e in
      elim (of_pair_or_not one other (a, b, cells)) [
        | inl h ↦ let here = h.2 in record {
          cells = cells;
          tally = subst (λ (y : ℕ). Tally (P one y) (cells_of window) cells) h.1 (subst (λ (x : ℕ). Tally (P x b) (cells_of window) cells) h.0 tally);
          sum = rest_equal (omega (arith, push, f, here));
        }
        | inr h ↦ let here = h.1 in record { cells = 0; tally = Tally-none (cells_of window) (λ c listed k. h.0 (only one other c k)); sum = rest_equal (omega (arith, push, f, here)) }
      ]
