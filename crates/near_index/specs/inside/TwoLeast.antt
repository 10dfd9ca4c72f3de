-- the nearest two labels of what was looked at so far
use Rattle.std.specs.Prelude.{ℕ, List, Option, Some, None, Contains, MatchOption, ◌++◌, ◌⊎◌, ◌≡◌, ◌≢◌, ◌≤◌}
use Rattle.geo_core.specs.declared.plane.Cell.{Cell}
use Rattle.geo_core.specs.declared.plane.Labelled.{Labelled}
use Rattle.near_index.specs.declared.nearest.Near.{Near}
use Rattle.near_index.specs.declared.nearest.Nearest.{Nearest}
use Rattle.near_index.specs.Nearest.{IsDistance, IsNoLater}

-- ---- of a relation of distances and labels

-- it is related, and comes no later than all that is
pub record IsLeast (R : ℕ → ℕ → Type 0) (near : Near) : Type 0 where
  pub hit : R near.distance near.label
  pub first : (distance label : ℕ) → R distance label → IsNoLater near distance label

-- the least, and none exactly where nothing is related
abbrev pub IsLeastOf : (ℕ → ℕ → Type 0) → Option Near → Type 0
IsLeastOf R near = MatchOption near ((distance label : ℕ) → R distance label → ⊥) (IsLeast R)

-- what is related of other labels than this one
abbrev pub Others : (ℕ → ℕ → Type 0) → ℕ → ℕ → ℕ → Type 0
Others R own distance label = R distance label × (label ≢ own)

-- the least, and the least of all other labels
abbrev pub AreTwoLeast : (ℕ → ℕ → Type 0) → Option Near → Option Near → Type 0
AreTwoLeast R None second = ((distance label : ℕ) → R distance label → ⊥) × (second ≡ None)
AreTwoLeast R (Some near) second = IsLeast R near × IsLeastOf (Others R near.label) second

-- the one of the two that comes first
abbrev pub IsFirstOf : Near → Near → Near → Type 0
IsFirstOf one other first =
    ((first ≡ one) × IsNoLater one other.distance other.label) ⊎ ((first ≡ other) × IsNoLater other one.distance one.label)

-- ---- of pieces

-- a piece with this label is so far from the cell
pub record IsAway (pieces : List Labelled) (cell : Cell) (distance label : ℕ) : Type 0 where
  pub piece : Labelled
  pub among : Contains pieces piece
  pub labelled : piece.label ≡ label
  pub away : IsDistance cell piece.rect distance

-- each of the pieces is at least so far from the cell
pub record AreBeyond (pieces : List Labelled) (cell : Cell) (bound : ℕ) : Type 0 where
  pub each : (piece : Labelled) (distance : ℕ) → Contains pieces piece → IsDistance cell piece.rect distance → bound ≤ distance

-- the nearest two of some pieces become those of these pieces, too
pub record AddsNearest (cell : Cell) (pieces : List Labelled) (old new : Nearest) : Type 0 where
  pub adds : (seen : List Labelled) → AreTwoLeast (IsAway seen cell) old.first old.second → AreTwoLeast (IsAway (seen ++ pieces) cell) new.first new.second
