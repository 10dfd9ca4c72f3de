-- faults: what a defect of side `s` does at the cell `c`
use Rattle.std.specs.Prelude.{ℕ, List, ◌≢◌}
use Rattle.geo_core.specs.declared.plane.Cell.{Cell}
use Rattle.geo_core.specs.declared.plane.Half.{Half}
use Rattle.fault_model.specs.Halves.{LiesIn, IsOn, IsInFootprint}
use Rattle.fault_model.specs.Walks.{Walk, IsSameIsland}
use Rattle.fault_model.specs.Nets.{Cut, IsContact, IsSameNetOn}

-- two half squares of the metal `m` that the defect has are not of one net
pub record IsShort (covers : ℕ → Cell → Type 0) (cuts : List Cut) (m s : ℕ) (c : Cell) : Type 0 where
  pub one : Half
  pub other : Half
  pub one_on : IsOn (covers m) one
  pub other_on : IsOn (covers m) other
  pub one_hit : IsInFootprint c s one
  pub other_hit : IsInFootprint c s other
  pub apart : IsSameNetOn covers cuts m one other → ⊥

-- the half square is covered and outside the defect
abbrev pub IsSpared : (Cell → Type 0) → Cell → ℕ → Half → Type 0
IsSpared covered c s h = IsOn covered h × (IsInFootprint c s h → ⊥)

-- a half square of the one set and one of the other are of one island
abbrev pub AreTied : (Cell → Type 0) → (Half → Type 0) → (Half → Type 0) → Type 0
AreTied covered one other = (p q : Half) × one p × other q × IsSameIsland covered p q

-- outside the defect no walk joins a half square of the one set to one of the other
abbrev pub AreParted : (Cell → Type 0) → Cell → ℕ → (Half → Type 0) → (Half → Type 0) → Type 0
AreParted covered c s one other = (p q : Half) → one p → other q → Walk (IsSpared covered c s) p q → ⊥

-- The defect parts two different terminals of one island. A terminal is a set of half squares under a name. A name may
-- stand for no terminal: then its set is empty, and it is tied to none.
pub record IsOpen {Name : Type 0} (covered : Cell → Type 0) (Differ : Name → Name → Type 0)
    (terminal : Name → Half → Type 0) (s : ℕ) (c : Cell) : Type 0 where
  pub one : Name
  pub other : Name
  pub different : Differ one other
  pub tied : AreTied covered (terminal one) (terminal other)
  pub parted : AreParted covered c s (terminal one) (terminal other)

-- the terminal of a cell: its half squares, where the cell is named as a terminal
abbrev pub IsInNamed : (Cell → Type 0) → Cell → Half → Type 0
IsInNamed named d h = named d × LiesIn h d

-- the defect parts two of the cells that are named as terminals
abbrev pub IsCellsOpen : (Cell → Type 0) → (Cell → Type 0) → ℕ → Cell → Type 0
IsCellsOpen covered named = IsOpen covered (λ d e. d ≢ e) (IsInNamed named)

-- two contacts of the cut are of one cluster: on one island of the lower metal, and on one of the upper
abbrev pub IsSameCluster : (ℕ → Cell → Type 0) → Cut → Half → Half → Type 0
IsSameCluster covers cut p q = IsSameIsland (covers cut.lower) p q × IsSameIsland (covers cut.upper) p q

-- some cluster has no contact outside the defect
pub record IsViaBlock (covers : ℕ → Cell → Type 0) (cut : Cut) (s : ℕ) (c : Cell) : Type 0 where
  pub contact : Half
  pub is_contact : IsContact covers cut contact
  pub covered : (h : Half) → IsContact covers cut h → IsSameCluster covers cut contact h → IsInFootprint c s h
