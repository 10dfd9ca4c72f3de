-- via clusters as terminals of a metal, beside the cells that are named
use Rattle.std.specs.Prelude.{ℕ, List, Contains, ◌≢◌, ◌≡◌, ◌⊎◌}
use Rattle.geo_core.specs.declared.plane.Cell.{Cell}
use Rattle.geo_core.specs.declared.plane.Half.{Half}
use Rattle.fault_model.specs.Nets.{Cut, IsContact}
use Rattle.fault_model.specs.Faults.{IsInNamed, IsOpen, IsSameCluster}

-- a terminal's name: a cell, or a cut with one contact of the cluster
pub data TerminalName : Type 0 where
  named_cell : Cell → TerminalName
  via : Cut → Half → TerminalName

-- both are contacts of the cut, and of one cluster
abbrev pub IsInClusterOf : (ℕ → Cell → Type 0) → Cut → Half → Half → Type 0
IsInClusterOf covers cut contact h = IsContact covers cut contact × IsContact covers cut h × IsSameCluster covers cut contact h

-- the cut is one of the list, and the metal `m` is its lower or its upper
abbrev pub HasMetal : List Cut → ℕ → Cut → Type 0
HasMetal cuts m cut = Contains cuts cut × ((cut.lower ≡ m) ⊎ (cut.upper ≡ m))

-- the half square lies in the terminal of this name on the metal `m`
abbrev pub IsInTerminal : (ℕ → Cell → Type 0) → List Cut → (Cell → Type 0) → ℕ → TerminalName → Half → Type 0
IsInTerminal covers cuts named m (named_cell d) h = IsInNamed named d h
IsInTerminal covers cuts named m (via cut contact) h = HasMetal cuts m cut × IsInClusterOf covers cut contact h

-- The names are of different terminals. A cell is no cluster. Two contacts of one cut name one cluster where they are
-- of one cluster, so there different names may be of one terminal.
abbrev pub Differ : (ℕ → Cell → Type 0) → TerminalName → TerminalName → Type 0
Differ covers (named_cell d) (named_cell e) = d ≢ e
Differ covers (named_cell d) (via k q) = Unit {0}
Differ covers (via i p) (named_cell e) = Unit {0}
Differ covers (via i p) (via k q) = (i ≢ k) ⊎ (IsInClusterOf covers i p q → ⊥)

-- the defect parts two terminals of the metal `m`, where the clusters of these cuts are terminals, too
abbrev pub IsViasOpen : (ℕ → Cell → Type 0) → List Cut → (Cell → Type 0) → ℕ → ℕ → Cell → Type 0
IsViasOpen covers cuts named m = IsOpen (covers m) (Differ covers) (IsInTerminal covers cuts named m)
