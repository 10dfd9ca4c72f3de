-- what the laws say of stages
use Rattle.std.specs.Prelude.{◌≡◌}

-- there is at most one thing of this kind
abbrev pub IsUnique : {A : Type 0} → (A → Type 0) → Type 0
IsUnique {A} Is = (one other : A) → Is one → Is other → one ≡ other

-- there is a thing of this kind: it cannot be that there is none
abbrev pub CannotLack : {A : Type 0} → (A → Type 0) → Type 0
CannotLack {A} Is = ((a : A) → Is a → ⊥) → ⊥
