-- what readers find where one value or several may stand
use Rattle.std.specs.Prelude.{ℕ, ◌≡◌, ◌≤◌, List, map, Option, Some, None, All}
use Rattle.lists.specs.Words.{Bor}
use Rattle.toml.specs.Data.{Data}
use Rattle.layer_map.specs.Values.{whole_number}

-- a thing of this kind is found, or there is none
pub data Finds {A : Type 0} (Is : A → Type 0) : Option A → Type 0 where
  finds : {thing : A} → Is thing → Finds Is (Some thing)
  lacks : ((thing : A) → Is thing → ⊥) → Finds Is None

-- the value is this thing of the kind, as such things are written
pub record IsWritten {A : Type 0} (as_value : A → Data) (Kind : A → Type 0) (value : Data) (thing : A) : Type 0 where
  pub written : value ≡ as_value thing
  pub is : Kind thing

-- the values are these things, which are together of the kind
pub record AreWritten {A : Type 0} (as_value : A → Data) (Kind : List A → Type 0) (values : List Data) (things : List A) : Type 0 where
  pub written : values ≡ map as_value things
  pub is : Kind things

-- such a thing stands there
pub record IsThere {A : Type 0} (as_value : A → Data) (Kind : A → Type 0) (there : Option Data) (thing : A) : Type 0 where
  pub written : there ≡ Some (as_value thing)
  pub is : Kind thing

-- the number lies within these bounds
pub record IsWithin (low high number : ℕ) : Type 0 where
  pub least : low ≤ number
  pub most : number ≤ high

-- the value is this whole number, which lies within these bounds
abbrev pub IsWholeIn : ℕ → ℕ → Data → ℕ → Type 0
IsWholeIn low high = IsWritten whole_number (IsWithin low high)

-- the values are these whole numbers, each of which lies within these bounds
abbrev pub AreWholesIn : ℕ → ℕ → List Data → List ℕ → Type 0
AreWholesIn low high = AreWritten whole_number (All (IsWithin low high))

-- texts, without where they lie
abbrev pub texts_of : List (Bor (List ℕ)) → List (List ℕ)
texts_of = map (λ text. text.now)
