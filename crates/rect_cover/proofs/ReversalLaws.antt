-- ways back of a path, from one piece to the next
use Rattle.std.proofs.Common.{ℕ, suc, ◌<◌, ◌≤◌, ◌≡◌, List, [], ◌∷◌, length, get_or, drop, refl, sym, ap, ◌∙◌, arith}
use Rattle.lists.proofs.Words.{drop-cons}
use Rattle.geo_core.specs.declared.plane.Point.{Point}
use Rattle.outlines.specs.Outlines.{Edge, edges_of}
use Rattle.rect_cover.specs.PathPieces.{neighbours}

-- the neighbours among the pieces between corners
abbrev pub pairs_of : List Point → List (Edge × Edge)
pairs_of corners = neighbours (edges_of corners)

-- two pieces more
module _ (xs : List Point) (k l i : ℕ) (d : Point) (kl : suc k ≡ l) (li : suc l ≡ i) (more : i < length xs) where
  from_second : drop l xs ≡ get_or xs l d ∷ get_or xs i d ∷ drop (suc i) xs
  from_second = drop-cons xs l d (omega arith) ∙ ap (λ n. get_or xs l d ∷ drop n xs) li ∙ ap (λ ys. get_or xs l d ∷ ys) (drop-cons xs i d more)

  from_first : drop k xs ≡ get_or xs k d ∷ get_or xs l d ∷ get_or xs i d ∷ drop (suc i) xs
  from_first = drop-cons xs k d (omega arith) ∙ ap (λ n. get_or xs k d ∷ drop n xs) kl ∙ ap (λ ys. get_or xs k d ∷ ys) from_second

  pub pairs_parted : pairs_of (drop k xs) ≡ ((get_or xs k d, get_or xs l d), (get_or xs l d, get_or xs i d)) ∷ pairs_of (drop l xs)
  pairs_parted = ap pairs_of from_first ∙ sym (ap (λ ys. ((get_or xs k d, get_or xs l d), (get_or xs l d, get_or xs i d)) ∷ pairs_of ys) from_second)

-- one piece has no neighbour
pub no_pair : (xs : List Point) → length xs ≤ 2 → pairs_of xs ≡ []
no_pair [] few = refl
no_pair (a ∷ []) few = refl
no_pair (a ∷ b ∷ []) few = refl
no_pair (a ∷ b ∷ c ∷ xs) few = absurd (omega arith)
