-- a pair tells its layer
use Rattle.std.proofs.Common.{◌≡◌, ℕ, zero, suc, List, [], ◌∷◌, refl, sym, ap, subst, Contains}
use Rattle.lists.proofs.Words.{Contains-append_left, Contains-append_right}
use Rattle.lists.proofs.Differing.{different_apart, different_back}
use Rattle.lists.specs.Differing.{AreDifferent}
use Rattle.map_model.specs.MapNames.{MappedLayer, pairs_of}
use Rattle.map_model.specs.LayerMap.{HasPair}

-- a pair of a layer is one of all pairs
pub pair_is_among : (layers : List MappedLayer) (pair : ℕ × ℕ) (number : ℕ) → HasPair layers pair number → Contains (pairs_of layers) pair
pair_is_among [] pair number h = cc h.numbered
pair_is_among (l ∷ ls) pair zero h =
    let same : l ≡ h.mapped = cc h.numbered in
    Contains-append_left l.pairs (pairs_of ls) pair (subst (λ (m : MappedLayer). Contains m.pairs pair) (sym same) h.among)
pair_is_among (l ∷ ls) pair (suc number) h =
    Contains-append_right l.pairs (pairs_of ls) pair (pair_is_among ls pair number (record { mapped = h.mapped; numbered = h.numbered; among = h.among }))

-- where all pairs differ, two layers with the same pair are one
pub pair_tells_layer : (layers : List MappedLayer) (pair : ℕ × ℕ) (one other : ℕ) → AreDifferent (pairs_of layers) → HasPair layers pair one → HasPair layers pair other → one ≡ other
pair_tells_layer [] pair one other d h k = cc h.numbered
pair_tells_layer (l ∷ ls) pair zero zero d h k = refl
pair_tells_layer (l ∷ ls) pair zero (suc other) d h k =
    let same : l ≡ h.mapped = cc h.numbered in
    absurd (different_apart l.pairs (pairs_of ls) pair d (subst (λ (m : MappedLayer). Contains m.pairs pair) (sym same) h.among)
    (pair_is_among ls pair other (record { mapped = k.mapped; numbered = k.numbered; among = k.among })))
pair_tells_layer (l ∷ ls) pair (suc one) zero d h k =
    let same : l ≡ k.mapped = cc k.numbered in
    absurd (different_apart l.pairs (pairs_of ls) pair d (subst (λ (m : MappedLayer). Contains m.pairs pair) (sym same) k.among)
    (pair_is_among ls pair one (record { mapped = h.mapped; numbered = h.numbered; among = h.among })))
pair_tells_layer (l ∷ ls) pair (suc one) (suc other) d h k =
    ap suc (pair_tells_layer ls pair one other (different_back l.pairs (pairs_of ls) d) (record { mapped = h.mapped; numbered = h.numbered; among = h.among })
    (record { mapped = k.mapped; numbered = k.numbered; among = k.among }))
