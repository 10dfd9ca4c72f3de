-- what becomes of changes and slabs, and what the rectangles of two lists have in common by their weights
use Rattle.std.specs.Prelude.{ℕ, List, [], ◌∷◌, ◌++◌, All, nat_lt, sum_by, unsigned_abs, if◌then◌else◌, ◌+ℤ◌, ◌-ℤ◌, ◌*◌, ◌%◌, ◌^◌, ◌≡◌, ◌≤ℤ◌, ◌⊎◌, ◌↔◌, pos}
use Rattle.geo_core.specs.Plane.{Has}
use Rattle.geo_core.specs.declared.plane.Cell.{Cell}
use Rattle.geo_core.specs.declared.plane.Labelled.{Labelled}
use Rattle.geo_core.specs.declared.plane.Rect.{Rect}
use Rattle.fault_model.specs.FaultNames.{cells_of, or_zero}
use Rattle.net_pairs.specs.inside.RowChanges.{AreChangesOf, IsChangeIn, below, count_in, weight_at}
use Rattle.net_pairs.specs.inside.Meetings.{GainsSum}
use Rattle.net_pairs.specs.inside.SameRests.{HaveOneRest}
use Rattle.net_pairs.specs.declared.weighted.Weighted.{Weighted}

-- ---- slabs

-- slabs weigh at each cell of the window as much as there are runs of the label that have it, in 64 bits
pub record AreSlabsOf (window : Rect) (runs : List Labelled) (slabs : List Weighted) : Type 0 where
  pub weight : (label : ℕ) (c : Cell) → Has window c → HaveOneRest (weight_at slabs label c) (count_in window runs label c)

-- ---- changes that count as often as there are rows above

-- so many rows reach from the cell's own up to the top of the window
abbrev pub rows_up : Rect → Cell → ℕ
rows_up window c = or_zero (window.y1 -ℤ c.j)

-- the change, with its weight times the rows from its own to the top of the window, in 64 bits
abbrev pub weighed_in : Rect → Weighted → Weighted
weighed_in window change = record change { weight = (change.weight * unsigned_abs (window.y1 -ℤ change.rect.y0)) % 2 ^ 64 }

-- at each cell of the window changes weigh so many times more as there are rows from its own to the top, in 64 bits
pub record AreWeighed (window : Rect) (changes weighed : List Weighted) : Type 0 where
  pub weight : (label : ℕ) (c : Cell) → Has window c → HaveOneRest (weight_at weighed label c) (rows_up window c * weight_at changes label c)
  pub within : All (IsChangeIn window) weighed

-- the same of the changes of these runs
pub record AreWeighedChangesOf (window : Rect) (runs : List Labelled) (weighed : List Weighted) : Type 0 where
  pub changes : List Weighted
  pub are : AreChangesOf window runs changes
  pub weighed_are : AreWeighed window changes weighed

-- ---- changes that are moved down

-- the same with each cell one row lower
pub record IsOneLower (change lower : Weighted) : Type 0 where
  pub label : lower.label ≡ change.label
  pub weight : lower.weight ≡ change.weight
  pub cells : (c : Cell) → Has lower.rect (below c) ↔ Has change.rect c

-- a list gains the change one row lower, or the change lies in the window's lowest row
abbrev pub GainsLower : Rect → Weighted → List Weighted → List Weighted → Type 0
GainsLower window change old new = ((lower : Weighted) × IsOneLower change lower × (new ≡ old ++ lower ∷ [])) ⊎ ((change.rect.y0 ≤ℤ window.y0) × (new ≡ old))

-- each change counts in the row below its own, if the window has that row, and in no other
pub record AreLowered (window : Rect) (changes lowered : List Weighted) : Type 0 where
  pub moved : (label : ℕ) (c : Cell) → Has window c → Has window (below c) → weight_at lowered label (below c) ≡ weight_at changes label c
  pub none_at_top : (label : ℕ) (c : Cell) → c.j +ℤ pos 1 ≡ window.y1 → weight_at lowered label c ≡ 0

-- ---- what two lists have in common

-- how much the cells of the window weigh by both lists together: by the rectangles of the first list with the one label, which is the
-- lesser, and by those of the second list with the other label
abbrev pub common_weight : Rect → List Weighted → List Weighted → ℕ → ℕ → ℕ
common_weight window lessers greaters one other =
    if nat_lt one other then sum_by (λ c. weight_at lessers one c * weight_at greaters other c) (cells_of window) else 0

-- the new list has more cells by what changes have in common with slabs of greater labels, and, one row lower, with those of lesser labels
pub record GainsByChanges (window : Rect) (changes slabs : List Weighted) (old new : List (ℕ × ℕ × ℕ)) : Type 0 where
  pub lowered : List Weighted
  pub mid : List (ℕ × ℕ × ℕ)
  pub are : AreLowered window changes lowered
  pub first : GainsSum (common_weight window changes slabs) old mid
  pub second : GainsSum (common_weight window slabs lowered) mid new
