-- circuits of which each item is moved
use Rattle.std.proofs.Common.{◌≡◌, refl, ap, List, [], ◌∷◌, map}
use Rattle.lists.proofs.Words.{map-append}
use Rattle.geo_core.specs.Plane.{circuit}

pub map-circuit : {X Y : Type 0} (f : X → Y) (xs : List X) → map f (circuit xs) ≡ circuit (map f xs)
map-circuit f [] = refl
map-circuit f (x ∷ xs) = ap (λ l. f x ∷ l) (map-append f xs (x ∷ []))
