-- zones that lie beside zones of other labels
use Rattle.std.specs.Prelude.{ℕ, List, [], ◌∷◌, ◌++◌, All, Contains, take, ◌≡◌, ◌⊎◌, ◌↔◌}
use Rattle.geo_core.specs.Plane.{Overlap}
use Rattle.geo_core.specs.declared.plane.Cell.{Cell}
use Rattle.geo_core.specs.declared.plane.Labelled.{Labelled}
use Rattle.net_pairs.specs.inside.PairGains.{IsInBoth}

-- those of the zones that have a cell of this one have its label
abbrev pub IsAlone : List Labelled → Labelled → Type 0
IsAlone zones zone = All (λ (other : Labelled). Overlap other.rect zone.rect → other.label ≡ zone.label) zones

-- zones of both labels are the same at each cell
abbrev pub HaveSameBoth : List Labelled → List Labelled → Type 0
HaveSameBoth zones kept = (one other : ℕ) (c : Cell) → IsInBoth kept one other c ↔ IsInBoth zones one other c

-- a list gains the zone, or the zone is alone
abbrev pub KeepsBeside : List Labelled → Labelled → List Labelled → List Labelled → Type 0
KeepsBeside zones zone old new = (new ≡ old ++ zone ∷ []) ⊎ (IsAlone zones zone × (new ≡ old))

-- of the first so many zones each is kept or alone
pub record AreKeptTo (zones : List Labelled) (i : ℕ) (kept : List Labelled) : Type 0 where
  pub among : (zone : Labelled) → Contains kept zone → Contains zones zone
  pub first : (zone : Labelled) → Contains (take i zones) zone → Contains kept zone ⊎ IsAlone zones zone
