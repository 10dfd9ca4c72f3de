-- pairs of labels, and at how many cells of a window a defect touches pieces of both
use Rattle.std.specs.Prelude.{ℕ, List, AllPairs, Contains, ◌<◌, ◌≡◌, ◌⊎◌, ◌↔◌}
use Rattle.geo_core.specs.declared.plane.Cell.{Cell}
use Rattle.geo_core.specs.declared.plane.Labelled.{Labelled}
use Rattle.geo_core.specs.declared.plane.Rect.{Rect}
use Rattle.fault_model.specs.FaultNames.{Tally, cells_of}
use Rattle.short_area.specs.Labels.{TouchesLabel}

-- the defect of this radius at the cell touches a piece of the one label and a piece of the other
pub record TouchesBoth (pieces : List Labelled) (radius : ℕ) (one other : ℕ) (c : Cell) : Type 0 where
  pub touches_one : TouchesLabel pieces radius c one
  pub touches_other : TouchesLabel pieces radius c other

-- the lesser of the two labels comes first, and at so many cells of the window, of which there is one, a defect touches pieces of both
pub record IsPairArea (pieces : List Labelled) (radius : ℕ) (window : Rect) (one other cells : ℕ) : Type 0 where
  pub lesser : one < other
  pub some : 0 < cells
  pub tally : Tally (TouchesBoth pieces radius one other) (cells_of window) cells

-- the one pair has the lesser first label, or the same and the lesser second one: so no pair comes twice
abbrev pub IsBefore : ℕ × ℕ × ℕ → ℕ × ℕ × ℕ → Type 0
IsBefore p q = (p.0 < q.0) ⊎ ((p.0 ≡ q.0) × (p.1 < q.1))

-- the list has each pair with its area, and nothing else, in the order of the pairs
pub record ArePairAreas (pieces : List Labelled) (radius : ℕ) (window : Rect) (areas : List (ℕ × ℕ × ℕ)) : Type 0 where
  pub exact : (one other cells : ℕ) → Contains areas (one, other, cells) ↔ IsPairArea pieces radius window one other cells
  pub rising : AllPairs IsBefore areas

-- two lists of areas of the same pieces are one
abbrev pub AreaListsAgree : Type 0
AreaListsAgree = (pieces : List Labelled) (radius : ℕ) (window : Rect) (areas others : List (ℕ × ℕ × ℕ)) →
    ArePairAreas pieces radius window areas → ArePairAreas pieces radius window others → areas ≡ others
