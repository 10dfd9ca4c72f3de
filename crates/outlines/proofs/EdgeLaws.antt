-- the edges between points that are taken in pairs: each point with the one behind it
use Rattle.std.proofs.Common.{◌≡◌, ◌⊎◌, inl, inr, List, [], ◌∷◌, drop, length, refl, ap, arith}
use Rattle.lists.proofs.Words.{zip}
use Rattle.geo_core.specs.declared.plane.Point.{Point}
use Rattle.outlines.specs.Outlines.{edges_of}

-- all edges are left where no pair was taken yet
pub edges_begun : (points others xs ys : List Point) (first : Point) → points ≡ first ∷ others → xs ≡ points → ys ≡ others → zip xs ys ≡ edges_of points
edges_begun points others xs ys first parts e f = cc (ap (drop 1) parts)

-- the next edge
pub edges_next : (xs ys xs' ys' : List Point) (p q : Point) → xs ≡ p ∷ xs' → ys ≡ q ∷ ys' → zip xs ys ≡ (p, q) ∷ zip xs' ys'
edges_next xs ys xs' ys' p q e f = rw (e, f) refl

-- none is left where either list has ended
pub edges_ended : (xs ys : List Point) → (length xs ≡ 0) ⊎ (length ys ≡ 0) → zip xs ys ≡ []
edges_ended [] ys none = refl
edges_ended (x ∷ xs) [] none = refl
edges_ended (x ∷ xs) (y ∷ ys) (inl none) = absurd (omega arith)
edges_ended (x ∷ xs) (y ∷ ys) (inr none) = absurd (omega arith)

-- points without edges
pub edges_none : (points : List Point) → length points ≡ 0 → edges_of points ≡ []
edges_none [] none = refl
edges_none (p ∷ points) none = absurd (omega arith)
