-- The lists of rectangles of layers, and what they cover.
use Rattle.std.proofs.Common.{ℕ, ◌+◌, ◌<◌, ◌≡◌, refl, sym, ap, ◌∙◌, subst, List, [], ◌∷◌, ◌++◌, Bool, true, false}
use Rattle.std.proofs.Common.{length, take, get_or, inl, inr, arith, ◌==◌, Some, Contains, All, filter, if◌then◌else◌, slice_get}
use Rattle.lists.proofs.Words.{append-nil, flat_map, AllZip, cases_lt, Decides-eqb, eqb_tells, flat_map-append, get_or_past}
use Rattle.lists.proofs.Words.{All-contains, All-from_get_or, filter-append, slice_get_within}
use Rattle.geo_core.specs.Plane.{IsInLayout, IsCoveredIn}
use Rattle.geo_core.specs.declared.plane.Cell.{Cell}
use Rattle.geo_core.specs.declared.plane.Rect.{Rect}
use Rattle.map_model.specs.MapNames.{IsMappedTo, layers_of, pairs_of}
use Rattle.lists.specs.Differing.{AreDifferent}
use Rattle.map_model.proofs.laws.PairLaws.{pair_tells_layer}
use Rattle.net_extract.proofs.laws.BesideLaws.{across_from, back_from}
use Rattle.area_parts.proofs.laws.ListLaws.{in_union, among_union}
use Rattle.run_inputs.specs.Coverage.{IsCoveredOn}
use Rattle.run_inputs.specs.Layout.{Subject}
use Rattle.run_inputs.specs.LayoutReaders.{Covered, rects_on, AreListsUpTo, AreLayersOf}
use Rattle.run_inputs.proofs.CoverReading.{IsCoveredAlong}
use Rattle.lists.proofs.Containing.{Contains-none, Contains-slice_get, all_of_each}
use Rattle.lists.proofs.Filtering.{Contains-filter, Contains-filter_passes, Contains-from_filter}
use Rattle.lists.proofs.Mapping.{Contains-flat_map, Contains-flat_map_from}
use Rattle.lists.proofs.Reading.{taken_at}

-- ---- the rectangles of one layer

abbrev is_on : ℕ → Covered → Bool
is_on number one = one.0.layer == number

abbrev rects_in : Covered → List Rect
rects_in one = one.1

filtered_one : (number : ℕ) (one : Covered) (b : Bool) → is_on number one ≡ b → filter (is_on number) (one ∷ []) ≡ (if b then one ∷ [] else [])
filtered_one number one b e = rw e refl

-- one shape more, that is on the layer or is not
module _ (number : ℕ) (covered : List Covered) (k : ℕ) (one : Covered) (at : slice_get covered k ≡ Some one) where
  next : (b : Bool) → is_on number one ≡ b → rects_on number (take (k + 1) covered) ≡ rects_on number (take k covered) ++ flat_map rects_in (if b then one ∷ [] else [])
  next b e =
      ap (rects_on number) (taken_at covered k one at) ∙ ap (flat_map rects_in) (filter-append (is_on number) (take k covered) (one ∷ [])
      ∙ ap (λ xs. filter (is_on number) (take k covered) ++ xs) (filtered_one number one b e))
      ∙ flat_map-append rects_in (filter (is_on number) (take k covered)) (if b then one ∷ [] else [])

  pub next_on : one.0.layer ≡ number → rects_on number (take (k + 1) covered) ≡ rects_on number (take k covered) ++ one.1
  next_on e = next true ((Decides-eqb one.0.layer number).1 e) ∙ ap (λ xs. rects_on number (take k covered) ++ xs) (append-nil one.1)

  pub next_off : (one.0.layer ≡ number → ⊥) → rects_on number (take (k + 1) covered) ≡ rects_on number (take k covered)
  next_off other = elim (eqb_tells one.0.layer number) [
    | inl same ↦ absurd (other same.1)
    | inr tells ↦ next false tells.0 ∙ append-nil (rects_on number (take k covered))
  ]

on_layer_from : (number : ℕ) (covered : List Covered) (rect : Rect) → Contains (rects_on number covered) rect → (one : Covered) × Contains covered one × (one.0.layer ≡ number) × Contains one.1 rect
on_layer_from number covered rect h =
    let found = Contains-flat_map_from rects_in (filter (is_on number) covered) rect h in
    let passed = Contains-filter_passes (is_on number) covered found.0 found.1 in
    (found.0, Contains-from_filter (is_on number) covered found.0 found.1, (Decides-eqb found.0.0.layer number).0 passed, found.2)

on_layer_to : (number : ℕ) (covered : List Covered) (one : Covered) (rect : Rect) → Contains covered one → one.0.layer ≡ number → Contains one.1 rect → Contains (rects_on number covered) rect
on_layer_to number covered one rect among e h =
    Contains-flat_map rects_in (filter (is_on number) covered) one rect (Contains-filter (is_on number) covered one among ((Decides-eqb one.0.layer number).1 e)) h

-- ---- one list for each layer

-- a list with an item is one of the lists
listed_below : (lists : List (List Rect)) (number : ℕ) (k : ℕ) (rect : Rect) → slice_get (get_or lists number []) k ≡ Some rect → number < length lists
listed_below lists number k rect at = elim (cases_lt number (length lists)) [
  | inl small ↦ small
  | inr past ↦ absurd (Contains-none (subst (λ xs. Contains xs rect) (get_or_past lists number [] past) (Contains-slice_get (get_or lists number []) k rect at)))
]

module _ (subject : Subject) (differ : AreDifferent (pairs_of (layers_of subject.layer_map))) (covered : List Covered) (along : AllZip (IsCoveredAlong subject.layer_map) subject.routes covered)
    (lists : List (List Rect))
    (made : AreListsUpTo covered (length (layers_of subject.layer_map)) lists) where
  covers_from : (number : ℕ) (c : Cell) → IsCoveredIn lists number c → IsCoveredOn subject.layer_map subject.routes number c
  covers_from number c v =
      let small = listed_below lists number v.number v.rect v.at in
      let is = made.each number (omega (arith, made.as_many)) in
      let found = on_layer_from number covered v.rect (subst (λ xs. Contains xs v.rect) is (among_union (get_or lists number []) c v)) in
      let of = back_from (IsCoveredAlong subject.layer_map) subject.routes covered found.0 along found.1 in
      record {
        route = of.0;
        among = of.1;
        is_mapped = subst (IsMappedTo subject.layer_map (of.0.shape.layer, of.0.shape.datatype)) found.2 of.2.layer;
        covers = (of.2.cover.same c).0 (in_union found.0.1 v.rect c found.3 v.has);
      }

  covers_to : (number : ℕ) (c : Cell) → IsCoveredOn subject.layer_map subject.routes number c → IsCoveredIn lists number c
  covers_to number c v =
      let of = across_from (IsCoveredAlong subject.layer_map) subject.routes covered v.route along v.among in
      let same = pair_tells_layer (layers_of subject.layer_map) (v.route.shape.layer, v.route.shape.datatype) of.0.0.layer number differ of.2.layer v.is_mapped in
      let inside = (of.2.cover.same c).1 v.covers in
      let small = slice_get_within (layers_of subject.layer_map) number v.is_mapped.mapped v.is_mapped.numbered in
      let listed = on_layer_to number covered of.0 inside.rect of.1 same (among_union of.0.1 c inside) in
      in_union (get_or lists number []) inside.rect c (subst (λ xs. Contains xs inside.rect) (sym (made.each number small)) listed) inside.has

  rects_within : (number : ℕ) → All IsInLayout (rects_on number covered)
  rects_within number = all_of_each IsInLayout (rects_on number covered) (λ rect h.
      let found = on_layer_from number covered rect h in
      let of = back_from (IsCoveredAlong subject.layer_map) subject.routes covered found.0 along found.1 in
      All-contains IsInLayout found.0.1 rect of.2.cover.within found.3)

  -- the lists have what the shapes cover
  pub are_layers : AreLayersOf subject lists
  are_layers = record {
    one_each = made.as_many;
    within = All-from_get_or (All IsInLayout) lists [] (λ number small. subst (All IsInLayout) (sym (made.each number (omega (arith, made.as_many)))) (rects_within number));
    covers = λ number c. (covers_from number c, covers_to number c);
  }
