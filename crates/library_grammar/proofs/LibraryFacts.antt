-- Names that differ and shapes that have their points, where no record shows a fault.
use Rattle.std.proofs.Common.{get_or, ◌≡◌, ◌≢◌, ◌⊎◌, inl, inr, ℕ, ℤ, List, [], ◌∷◌, ◌++◌, All, Option, Some, None, IfSome, refl, sym, ap, subst, ◌∙◌, arith, append_assoc, length, ◌≤◌}
use Rattle.lists.proofs.Words.{flat_map, leb_tells, append-nil, All-nil, All-cons, All-head, All-tail, AllPairs-cons}
use Rattle.library_grammar.specs.GrammarNames.{AreDifferent, Entry, IsNameIn, NoneShows, may_not_stand, repeats, ElementParts, element_records, IsElement, StructureParts, structure_head}
use Rattle.library_grammar.specs.GrammarNames.{structure_records, IsStructure, IsInShape, behind, SayElements, SaysStructure, SayStructures, names_of, HasItsPoints, IsWellPointed, AreWellPointed}
use Rattle.library_grammar.specs.GrammarNames.{IsClosed, IsOutline}
use Rattle.lists.proofs.Comparing.{same_or_not}
use Rattle.lists.proofs.Reading.{last_or_before}
use Rattle.geo_core.specs.declared.plane.Point.{Point}
use Rattle.library_grammar.specs.Libraries.{no_more as no_elements, one_more as one_element, no_more as no_structures, one_more as one_structure}
use Rattle.library_model.specs.declared.element.Element.{Element}
use Rattle.library_model.specs.declared.element.Element.TheVariants.{Shape as shape_element, Reference as reference_element}
use Rattle.library_model.specs.declared.element.ShapeKind.{ShapeKind}
use Rattle.library_model.specs.declared.element.ShapeKind.TheVariants.{Boundary, BoxElement, Path}
use Rattle.library_model.specs.declared.library.Structure.{Structure}
use Rattle.library_grammar.proofs.laws.NextRecords.{among_more}
use Rattle.library_grammar.proofs.LibraryThere.{second_part, split_part, checks_cannot_fail}
use Rattle.library_grammar.proofs.TextThere.{no_item}
use Rattle.library_grammar.proofs.PointedLaws.{kept_is_pointed}
use Rattle.library_grammar.proofs.laws.Kept.{with_kept}

-- ---- names

-- a structure's records have its name
names_itself : (at : ℕ) (s : StructureParts) (structure : Structure) → IsStructure s → SaysStructure at s structure → IsNameIn (structure_records s) structure.name
names_itself at s structure is says =
    record { earlier = s.opening ∷ []; record_of_name = s.name; later = _; parts = refl; names = is.names; is_text = says.name }

-- where no record shows a fault, a name does not stand again behind records that have it
never_again : (entries before after : List Entry) (name : List ℕ) → NoneShows entries → entries ≡ before ++ after → IsNameIn before name → IsNameIn after name → ⊥
never_again entries before after name none parts has again =
    let in_front : List Entry = before ++ again.earlier in
    let at : entries ≡ in_front ++ again.record_of_name ∷ again.later =
    parts ∙ ap (λ (x : List Entry). before ++ x) again.parts ∙ sym (append_assoc before again.earlier (again.record_of_name ∷ again.later))
    in
    let has_in_front : IsNameIn in_front name = among_more [] before again.earlier name has in
    none in_front again.later again.record_of_name _ at
    (may_not_stand (λ may. none in_front again.later again.record_of_name _ at (repeats may again.names again.is_text has_in_front)))

-- the names of structures stand among their records
all_named : (at : ℕ) (parts : List StructureParts) (structures : List Structure) → All IsStructure parts → SayStructures at parts structures
    → All (IsNameIn (flat_map structure_records parts)) (names_of structures)
all_named at _ _ are no_structures = All-nil (IsNameIn [])
all_named at _ _ are (one_structure {parts = s} {others = others} {structure = t} {structures = structures} says more) =
    let rest : List Entry = flat_map structure_records others in
    let named = all_named (behind at (structure_records s)) others structures (All-tail IsStructure s others are) more in
    All-cons (IsNameIn (structure_records s ++ rest)) t.name (names_of structures)
    (among_more [] (structure_records s) rest t.name (names_itself at s t (All-head IsStructure s others are) says))
    (λ k d lt.
    let name : List ℕ = get_or (names_of structures) k d in
    subst (λ (x : List Entry). IsNameIn (structure_records s ++ x) name) (append-nil rest) (among_more (structure_records s) rest [] name (named k d lt)))

-- the names of structures differ, where no record of the whole list shows a fault
pub all_differ : (whole front after : List Entry) (at : ℕ) (parts : List StructureParts) (structures : List Structure) → NoneShows whole
    → whole ≡ front ++ (flat_map structure_records parts ++ after) → All IsStructure parts → SayStructures at parts structures → AreDifferent (names_of structures)
all_differ whole front after at _ _ none parts are no_structures = λ i j d less within. absurd (omega arith)
all_differ whole front after at _ _ none parts are (one_structure {parts = s} {others = others} {structure = t} {structures = structures} says more) =
    let records : List Entry = structure_records s in
    let rest : List Entry = flat_map structure_records others in
    let further = second_part whole front records (rest ++ after) (split_part whole front records rest after parts) in
    let itself = names_itself at s t (All-head IsStructure s others are) says in
    let has : IsNameIn (front ++ records) t.name = subst (λ (x : List Entry). IsNameIn (front ++ x) t.name) (append-nil records) (among_more front records [] t.name itself) in
    let named = all_named (behind at records) others structures (All-tail IsStructure s others are) more in
    AllPairs-cons (λ one other. one ≢ other) t.name (names_of structures)
    (λ k d lt same.
    never_again whole (front ++ records) (rest ++ after) t.name none further has (among_more [] rest after t.name (subst (IsNameIn rest) (sym same) (named k d lt))))
    (all_differ whole (front ++ records) after (behind at records) others structures none further (All-tail IsStructure s others are) more)

-- ---- points that are closed or not

abbrev point_with : ℤ × ℤ → Point
point_with a = record { x = a.0; y = a.1 }

one_point_or_not : (p q : Point) → (p ≡ q) ⊎ (p ≡ q → ⊥)
one_point_or_not p q =
    elim (same_or_not p.x q.x) [
      | inr across ↦ inr (λ same. across (ap (λ (r : Point). r.x) same))
      | inl across ↦
          elim (same_or_not p.y q.y) [
            | inr up ↦ inr (λ same. up (ap (λ (r : Point). r.y) same))
            | inl up ↦ let both : (p.x, p.y) ≡ (q.x, q.y) = cc (across, up) in inl (ap point_with both)
          ]
    ]

-- a list has a last item
ends_with : (p : Point) (points : List Point) → (front : List Point) × (last : Point) × (p ∷ points ≡ front ++ last ∷ [])
ends_with p [] = ([], p, refl)
ends_with p (q ∷ points) =
    let rest = ends_with q points in
    (p ∷ rest.0, rest.1, ap (λ (ps : List Point). p ∷ ps) rest.2)

-- where the last point is another than the first the points are not closed
not_closed : (p : Point) (front : List Point) (last : Point) → (last ≡ p → ⊥) → IsClosed (p ∷ (front ++ last ∷ [])) → ⊥
not_closed p front last other closed =
    let parts = closed.parts in
    let first : p ≡ closed.first = cc (parts) in
    let rests : front ++ last ∷ [] ≡ closed.between ++ closed.first ∷ [] = cc (parts) in
    elim (last_or_before front last closed.between closed.first [] rests) [
      | inl (fronts, lasts, none) ↦ other (lasts ∙ sym first)
      | inr (more, fronts, none) ↦ no_item more [] last none
    ]

closed_or_not : (points : List Point) → IsClosed points ⊎ (IsClosed points → ⊥)
closed_or_not [] = inr (λ closed. let parts = closed.parts in cc (parts))
closed_or_not (p ∷ []) = inr (λ closed. let parts = closed.parts in no_item closed.between [] closed.first (cc parts))
closed_or_not (p ∷ q ∷ points) =
    let end = ends_with q points in
    let all : p ∷ q ∷ points ≡ p ∷ (end.0 ++ end.1 ∷ []) = ap (λ (ps : List Point). p ∷ ps) end.2 in
    elim (one_point_or_not end.1 p) [
      | inl same ↦ inl (record { first = p; between = end.0; parts = all ∙ ap (λ (r : Point). p ∷ (end.0 ++ r ∷ [])) same })
      | inr other ↦ inr (λ closed. not_closed p end.0 end.1 other (subst IsClosed all closed))
    ]

-- ---- what cannot be lacking is there

at_least : (n m : ℕ) → ((n ≤ m → ⊥) → ⊥) → n ≤ m
at_least n m h = elim (leb_tells n m) [ inl few ↦ few.1 | inr many ↦ absurd (h (λ le. let more = many.1 in omega arith)) ]

outline_there : (points : List Point) → ((IsOutline points → ⊥) → ⊥) → IsOutline points
outline_there points h =
    record {
      count = at_least 4 (length points) (λ few. h (λ outline. few outline.count));
      closed = elim (closed_or_not points) [ inl closed ↦ closed | inr open_one ↦ absurd (h (λ outline. open_one outline.closed)) ];
    }

points_there : (kind : ShapeKind) (points : List Point) → ((HasItsPoints kind points → ⊥) → ⊥) → HasItsPoints kind points
points_there Boundary points h = outline_there points h
points_there BoxElement points h = outline_there points h
points_there (Path pathtype width begin end) points h = at_least 1 (length points) h

pointed_there : (kept : Option Element) → ((IfSome kept IsWellPointed → ⊥) → ⊥) → IfSome kept IsWellPointed
pointed_there None h = tt
pointed_there (Some (shape_element shape)) h = points_there shape.kind shape.points h
pointed_there (Some (reference_element reference)) h = tt

-- ---- shapes

module _ (stream : List Entry) (shape : IsInShape stream) (none : NoneShows stream) where
  elements_pointed : (at : ℕ) (before after : List Entry) (parts : List ElementParts) (elements : List Element) → stream ≡ before ++ (flat_map element_records parts ++ after)
      → All IsElement parts → SayElements at parts elements → All IsWellPointed elements
  elements_pointed at before after _ _ lie are no_elements = All-nil IsWellPointed
  elements_pointed at before after _ _ lie are (one_element {element = x} {others = others} {kept = kept} {elements = elements} keeps more) =
      let is = All-head IsElement x others are in
      let rest : List Entry = flat_map element_records others in
      let here = split_part stream before (element_records x) rest after lie in
      with_kept IsWellPointed kept elements
      (pointed_there kept (λ not.
      checks_cannot_fail stream shape none before x (rest ++ after) here is (λ sound. not (kept_is_pointed at x.own x.opening.kind kept x.form is.opens sound keeps))))
      (elements_pointed _ (before ++ element_records x) after others elements (second_part stream before (element_records x) (rest ++ after) here) (All-tail IsElement x others are) more)

  pub structures_pointed : (at : ℕ) (before after : List Entry) (parts : List StructureParts) (structures : List Structure) → stream ≡ before ++ (flat_map structure_records parts ++ after)
      → All IsStructure parts → SayStructures at parts structures → AreWellPointed structures
  structures_pointed at before after _ _ lie are no_structures = All-nil (λ t. All IsWellPointed t.elements)
  structures_pointed at before after _ _ lie are (one_structure {parts = s} {others = others} {structure = t} {structures = structures} says more) =
      let is = All-head IsStructure s others are in
      let rest : List Entry = flat_map structure_records others in
      let elements : List Entry = flat_map element_records s.elements in
      let here = split_part stream before (structure_records s) rest after lie in
      let inside = second_part stream before (structure_head s) _ (split_part stream before (structure_head s) (elements ++ s.last ∷ []) (rest ++ after) here) in
      All-cons (λ (u : Structure). All IsWellPointed u.elements) t structures
      (elements_pointed _ (before ++ structure_head s) (s.last ∷ (rest ++ after)) s.elements t.elements
      (split_part stream (before ++ structure_head s) elements (s.last ∷ []) (rest ++ after) inside) is.elements says.elements)
      (structures_pointed _ (before ++ structure_records s) after others structures (second_part stream before (structure_records s) (rest ++ after) here) (All-tail IsStructure s others are) more)
