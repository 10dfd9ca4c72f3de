-- shapes of mapped layers
use Rattle.std.proofs.Common.{ℕ, ◌≡◌, ◌↔◌, inl, inr, List, Bool, true, false, ◌&&◌, refl, subst, Contains, IsTrue, ◌==◌}
use Rattle.lists.proofs.Words.{and_parts, cases_Bool, list_any, eqb-true, eq-eqb, Any-from_list_any}
use Rattle.lists.proofs.Containing.{Contains-slice_get, number_of}
use Rattle.std.proofs.lemmas.List.Folds.{list_any-from_Any}
use Rattle.library_model.specs.declared.element.Shape.{Shape}
use Rattle.map_model.specs.MapNames.{LayerMap, MappedLayer, IsMappedTo, layers_of}
use Rattle.flatten.specs.Structures.{is_mapped}

-- whether the pair is this one
abbrev is_pair : ℕ → ℕ → ℕ × ℕ → Bool
is_pair l d pair = (pair.0 == l) && (pair.1 == d)

is_pair-true : (l d : ℕ) (pair : ℕ × ℕ) → is_pair l d pair ≡ true → pair ≡ (l, d)
is_pair-true l d (a, b) t =
    let parts = and_parts (a == l) (b == d) t in
    let first : a ≡ l = eqb-true a l parts.0 in
    let second : b ≡ d = eqb-true b d parts.1 in
    cc

is_pair-same : (l d : ℕ) → is_pair l d (l, d) ≡ true
is_pair-same l d = rw (eq-eqb l l refl, eq-eqb d d refl) refl

-- whether the layer has the pair
abbrev has_pair : ℕ → ℕ → MappedLayer → Bool
has_pair l d mapped = list_any (is_pair l d) mapped.pairs

-- a test passes somewhere in a list exactly where it passes at one of its items
any_there : {X : Type 0} (p : X → Bool) (xs : List X) → (list_any p xs ≡ true) ↔ ((x : X) × Contains xs x × (p x ≡ true))
any_there p xs = (
  λ t. let some = Any-from_list_any p xs t in (some.1, (some.0, some.2, some.3), some.4),
  λ (x, there, t). list_any-from_Any p xs (there.0, x, there.1, there.2, t),
)

has_pair-is : (l d : ℕ) (mapped : MappedLayer) → (has_pair l d mapped ≡ true) ↔ Contains mapped.pairs (l, d)
has_pair-is l d mapped = (
  λ t. let some = (any_there (is_pair l d) mapped.pairs).0 t in subst (Contains mapped.pairs) (is_pair-true l d some.0 some.2) some.1,
  λ there. (any_there (is_pair l d) mapped.pairs).1 ((l, d), there, is_pair-same l d),
)

pub is_mapped-is : (layer_map : LayerMap) (shape : Shape) → IsTrue (is_mapped layer_map shape) ↔ ((number : ℕ) × IsMappedTo layer_map (shape.layer, shape.datatype) number)
is_mapped-is layer_map shape = (
  λ t.
      let some = (any_there (has_pair shape.layer shape.datatype) (layers_of layer_map)).0 t in
      let at = number_of (layers_of layer_map) some.0 some.1 in
      (at.0, record { mapped = some.0; numbered = at.1; among = (has_pair-is shape.layer shape.datatype some.0).0 some.2 }),
  λ (number, is). (any_there (has_pair shape.layer shape.datatype) (layers_of layer_map)).1
      (is.mapped, Contains-slice_get (layers_of layer_map) number is.mapped is.numbered, (has_pair-is shape.layer shape.datatype is.mapped).1 is.among),
)

-- a shape that has no layer is not mapped, and one that has a layer is
pub is_mapped-none : (layer_map : LayerMap) (shape : Shape) → ((number : ℕ) → IsMappedTo layer_map (shape.layer, shape.datatype) number → ⊥) → is_mapped layer_map shape ≡ false
is_mapped-none layer_map shape none = elim (cases_Bool (is_mapped layer_map shape)) [
  | inl t ↦ let has = (is_mapped-is layer_map shape).0 t in absurd (none has.0 has.1)
  | inr f ↦ f
]

pub is_mapped-some : (layer_map : LayerMap) (shape : Shape) (number : ℕ) → IsMappedTo layer_map (shape.layer, shape.datatype) number → is_mapped layer_map shape ≡ true
is_mapped-some layer_map shape number has = (is_mapped-is layer_map shape).1 (number, has)
