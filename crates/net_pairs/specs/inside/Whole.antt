-- zones of a part, of which one that has all of it stands for all zones of its label
use Rattle.std.specs.Prelude.{ℕ, List, [], ◌∷◌, ◌++◌, Contains, take, ◌≡◌, ◌⊎◌}
use Rattle.geo_core.specs.declared.plane.Labelled.{Labelled}
use Rattle.geo_core.specs.declared.plane.Rect.{Rect}
use Rattle.union_area.specs.WindowParts.{HasAllOf}

-- one of the list has this label and all of the part
pub record HasWhole (part : Rect) (kept : List Labelled) (label : ℕ) : Type 0 where
  pub whole : Labelled
  pub among : Contains kept whole
  pub labelled : whole.label ≡ label
  pub all : HasAllOf part whole.rect

-- a list gains the zone, or one of it already has all of the part for the zone's label
abbrev pub KeepsOne : Rect → Labelled → List Labelled → List Labelled → Type 0
KeepsOne part zone old new = (new ≡ old ++ zone ∷ []) ⊎ (HasWhole part old zone.label × (new ≡ old))

-- of the first so many zones each is kept, or one that is kept has all of the part for its label
pub record AreOnesTo (part : Rect) (zones : List Labelled) (i : ℕ) (kept : List Labelled) : Type 0 where
  pub among : (zone : Labelled) → Contains kept zone → Contains zones zone
  pub first : (zone : Labelled) → Contains (take i zones) zone → Contains kept zone ⊎ HasWhole part kept zone.label
