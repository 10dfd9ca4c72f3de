-- what is kept of a list
use Rattle.std.specs.Prelude.{List, [], ◌∷◌}

-- the second list has those items of the first of which `P` holds, in order
pub data AreKept {X : Type 0} (P : X → Type 0) : List X → List X → Type 0 where
  all_seen : AreKept P [] []
  kept : {x : X} {xs ys : List X} → P x → AreKept P xs ys → AreKept P (x ∷ xs) (x ∷ ys)
  dropped : {x : X} {xs ys : List X} → (P x → ⊥) → AreKept P xs ys → AreKept P (x ∷ xs) ys
