-- which layer a pair is mapped to
use Rattle.std.proofs.Common.{◌≡◌, ℕ, zero, suc, ◌+◌, ◌<◌, List, [], ◌∷◌, ◌++◌, length, Some, None, map, get_or, ◌↔◌, refl, sym, ap, ◌∙◌, subst, arith, zero-add, suc-add, below_more, option_map, Contains, slice_get}
use Rattle.lists.proofs.Words.{length-map, slice_get-get_or, slice_get-map, slice_get_within, same_Some}
use Rattle.lists.specs.Differing.{AreDifferent}
use Rattle.map_model.specs.MapNames.{MappedLayer, layers_of, pairs_of, metal_layer, cut_layer, mapped_cut, layer_map_of}
use Rattle.map_model.specs.LayerMap.{HasPair}
use Rattle.map_model.specs.declared.layers.Metal.{Metal}
use Rattle.map_model.specs.declared.layers.Cut.{Cut}
use Rattle.map_model.specs.declared.map.Map.{Map}
use Rattle.map_model.proofs.laws.PairLaws.{pair_tells_layer}

-- where all pairs differ, a layer with the pair is the one layer with it
pub one_layer_has : (layers : List MappedLayer) (pair : ℕ × ℕ) (number : ℕ) → AreDifferent (pairs_of layers) → HasPair layers pair number → (other : ℕ)
    → (Some number ≡ Some other) ↔ HasPair layers pair other
one_layer_has layers pair number d h other =
    (λ same. let equal : number ≡ other = cc same in subst (HasPair layers pair) equal h, λ k. ap Some (pair_tells_layer layers pair number other d h k))

-- items of two lists, one after the other
get_front : {A : Type 0} (xs ys : List A) (i : ℕ) (x : A) → slice_get xs i ≡ Some x → slice_get (xs ++ ys) i ≡ Some x
get_front [] ys i x h = cc h
get_front (y ∷ xs) ys zero x h = h
get_front (y ∷ xs) ys (suc i) x h = get_front xs ys i x h

get_back : {A : Type 0} (xs ys : List A) (i : ℕ) → slice_get (xs ++ ys) (length xs + i) ≡ slice_get ys i
get_back [] ys i = rw (zero-add i) refl
get_back (x ∷ xs) ys i = rw (suc-add (length xs) i) (get_back xs ys i)

pub front_has : (metals cuts : List MappedLayer) (pair : ℕ × ℕ) (number : ℕ) → HasPair metals pair number → HasPair (metals ++ cuts) pair number
front_has metals cuts pair number h = record { mapped = h.mapped; numbered = get_front metals cuts number h.mapped h.numbered; among = h.among }

pub back_has : (metals cuts : List MappedLayer) (pair : ℕ × ℕ) (number : ℕ) → HasPair cuts pair number → HasPair (metals ++ cuts) pair (length metals + number)
back_has metals cuts pair number h = record { mapped = h.mapped; numbered = get_back metals cuts number ∙ h.numbered; among = h.among }

-- a layer has the pair
pub item_has : {A : Type 0} (layer_of : A → MappedLayer) (items : List A) (number : ℕ) (item : A) (pair : ℕ × ℕ) → number < length items → item ≡ get_or items number item
    → Contains (layer_of item).pairs pair → HasPair (map layer_of items) pair number
item_has layer_of items number item pair within is among =
    record {
      mapped = layer_of item;
      numbered = slice_get-map layer_of items number ∙ ap (option_map layer_of) (slice_get-get_or items number item within ∙ ap Some (sym is));
      among = among;
    }

-- no layer before this one has the pair
abbrev pub NoneHas : List MappedLayer → ℕ × ℕ → ℕ → Type 0
NoneHas layers pair n = (k : ℕ) → k < n → HasPair layers pair k → ⊥

pub none_has_more : {A : Type 0} (layer_of : A → MappedLayer) (items : List A) (number : ℕ) (item : A) (pair : ℕ × ℕ) → number < length items → item ≡ get_or items number item
    → NoneHas (map layer_of items) pair number → (Contains (layer_of item).pairs pair → ⊥) → NoneHas (map layer_of items) pair (number + 1)
none_has_more layer_of items number item pair within is before not = below_more _ number before (λ h.
    let there : slice_get (map layer_of items) number ≡ Some (layer_of item) = slice_get-map layer_of items number
    ∙ ap (option_map layer_of) (slice_get-get_or items number item within ∙ ap Some (sym is)) in
    let same : h.mapped ≡ layer_of item = same_Some _ _ (sym h.numbered ∙ there) in
    not (subst (λ (m : MappedLayer). Contains m.pairs pair) same h.among))

-- where neither part has it, no layer has it
pub none_has : (metals cuts : List MappedLayer) (pair : ℕ × ℕ) → NoneHas metals pair (length metals) → NoneHas cuts pair (length cuts) → (number : ℕ) → HasPair (metals ++ cuts) pair number → ⊥
none_has [] cuts pair none also number h = also number (slice_get_within cuts number h.mapped h.numbered) h
none_has (m ∷ metals) cuts pair none also zero h = none zero (omega arith) (record { mapped = h.mapped; numbered = h.numbered; among = h.among })
none_has (m ∷ metals) cuts pair none also (suc number) h =
    none_has metals cuts pair (λ k below k_has. none (suc k) (omega arith) (record { mapped = k_has.mapped; numbered = k_has.numbered; among = k_has.among })) also number
    (record { mapped = h.mapped; numbered = h.numbered; among = h.among })

-- then there is no number
pub no_number : (layers : List MappedLayer) (pair : ℕ × ℕ) → ((number : ℕ) → HasPair layers pair number → ⊥) → (number : ℕ) → (None ≡ Some number) ↔ HasPair layers pair number
no_number layers pair none number = (λ same. cc same, λ h. absurd (none number h))

-- the layers of a map
layers_fuse : (cuts : List Cut) → map (λ cut. cut.mapped) (map mapped_cut cuts) ≡ map cut_layer cuts
layers_fuse [] = refl
layers_fuse (c ∷ cs) = ap (λ ls. cut_layer c ∷ ls) (layers_fuse cs)

layers_are : (given : Map) → layers_of (layer_map_of given) ≡ map metal_layer given.metals ++ map cut_layer given.cuts
layers_are given = ap (λ ls. map metal_layer given.metals ++ ls) (layers_fuse given.cuts)

pairs_are_different : (given : Map) → AreDifferent (pairs_of (map metal_layer given.metals ++ map cut_layer given.cuts))
pairs_are_different given = subst (λ ls. AreDifferent (pairs_of ls)) (layers_are given) given.pairs_differ

-- what a metal, or a cut, with the pair tells of a map
pub metal_has : (given : Map) (pair : ℕ × ℕ) (items : List Metal) (number : ℕ) (item : Metal) → items ≡ given.metals → number < length items → item ≡ get_or items number item
    → Contains item.pairs pair → (other : ℕ) → (Some number ≡ Some other) ↔ HasPair (layers_of (layer_map_of given)) pair other
metal_has given pair items number item same within is among =
    let in_metals : number < length given.metals = subst (λ (xs : List Metal). number < length xs) same within in
    let of_metals : item ≡ get_or given.metals number item = subst (λ (xs : List Metal). item ≡ get_or xs number item) same is in
    subst (λ (ls : List MappedLayer). (other : ℕ) → (Some number ≡ Some other) ↔ HasPair ls pair other) (sym (layers_are given))
    (one_layer_has (map metal_layer given.metals ++ map cut_layer given.cuts) pair number (pairs_are_different given)
    (front_has (map metal_layer given.metals) (map cut_layer given.cuts) pair number (item_has metal_layer given.metals number item pair in_metals of_metals among)))

pub cut_has : (given : Map) (pair : ℕ × ℕ) (metals : List Metal) (items : List Cut) (number : ℕ) (item : Cut) → metals ≡ given.metals → items ≡ given.cuts → number < length items
    → item ≡ get_or items number item → Contains item.pairs pair → (other : ℕ) → (Some (length metals + number) ≡ Some other) ↔ HasPair (layers_of (layer_map_of given)) pair other
cut_has given pair metals items number item same_metals same within is among =
    let in_cuts : number < length given.cuts = subst (λ (xs : List Cut). number < length xs) same within in
    let of_cuts : item ≡ get_or given.cuts number item = subst (λ (xs : List Cut). item ≡ get_or xs number item) same is in
    let count : length (map metal_layer given.metals) ≡ length metals = length-map given.metals metal_layer ∙ ap length (sym same_metals) in
    let back : HasPair (map metal_layer given.metals ++ map cut_layer given.cuts) pair (length metals + number) =
    subst (λ (n : ℕ). HasPair (map metal_layer given.metals ++ map cut_layer given.cuts) pair (n + number)) count
    (back_has (map metal_layer given.metals) (map cut_layer given.cuts) pair number (item_has cut_layer given.cuts number item pair in_cuts of_cuts among)) in
    subst (λ (ls : List MappedLayer). (other : ℕ) → (Some (length metals + number) ≡ Some other) ↔ HasPair ls pair other) (sym (layers_are given))
    (one_layer_has (map metal_layer given.metals ++ map cut_layer given.cuts) pair (length metals + number) (pairs_are_different given) back)

pub neither_has : (given : Map) (pair : ℕ × ℕ) (metals : List Metal) (cuts : List Cut) → metals ≡ given.metals → cuts ≡ given.cuts → NoneHas (map metal_layer given.metals) pair (length metals)
    → NoneHas (map cut_layer given.cuts) pair (length cuts) → (number : ℕ) → (None ≡ Some number) ↔ HasPair (layers_of (layer_map_of given)) pair number
neither_has given pair metals cuts same_metals same_cuts no_metal no_cut =
    let metals_count : length metals ≡ length (map metal_layer given.metals) = ap length same_metals ∙ sym (length-map given.metals metal_layer) in
    let cuts_count : length cuts ≡ length (map cut_layer given.cuts) = ap length same_cuts ∙ sym (length-map given.cuts cut_layer) in
    subst (λ (ls : List MappedLayer). (number : ℕ) → (None ≡ Some number) ↔ HasPair ls pair number) (sym (layers_are given))
    (no_number (map metal_layer given.metals ++ map cut_layer given.cuts) pair
    (none_has (map metal_layer given.metals) (map cut_layer given.cuts) pair (rw metals_count at no_metal) (rw cuts_count at no_cut)))
