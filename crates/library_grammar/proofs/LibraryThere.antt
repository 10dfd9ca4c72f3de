-- A whole stream of which no record shows a fault says a library, and so bytes come to something.
use Rattle.std.proofs.Common.{◌≡◌, ℕ, List, [], ◌∷◌, ◌++◌, All, refl, sym, ap, subst, ◌∙◌, append_assoc, option_to_list}
use Rattle.lists.proofs.Words.{append-nil, flat_map, All-head, All-tail, All-same, All-weaker}
use Rattle.lists.proofs.Containing.{All-front, All-back}
use Rattle.library_grammar.specs.GrammarNames.{AreBytes, CannotLack, value, refused, IsInProfile, Entry, End, whole, stops, Splits, ElementHolds, element_checks, element_fault, IsKept, Shows}
use Rattle.library_grammar.specs.GrammarNames.{is_faulty, NoneShows, at_end, BytesComeTo, are_library, have_fault, property_records, ElementParts, element_records, IsElement, StructureParts}
use Rattle.library_grammar.specs.GrammarNames.{structure_head, structure_records, IsStructure, library_head, IsInShape, MayStand, behind, SayElements, SaysStructure, SayStructures, IsLibrary}
use Rattle.first_refusal.proofs.CheckLaws.{cannot_lack_both}
use Rattle.library_grammar.specs.Libraries.{no_more as no_elements, one_more as one_element, no_more as no_structures, one_more as one_structure}
use Rattle.library_grammar.specs.declared.fault.SyntaxFault.{SyntaxFault}
use Rattle.library_grammar.specs.declared.fault.SyntaxFault.TheVariants.{Record as record_fault}
use Rattle.library_grammar.proofs.PartsAgree.{closing_begins, element_behind}
use Rattle.library_grammar.proofs.ShapeThere.{in_shape}
use Rattle.library_grammar.proofs.FieldRanges.{HaveBytes}
use Rattle.library_grammar.proofs.laws.NextRecords.{behind-append, NoneShows-snoc}
use Rattle.library_grammar.proofs.KeptThere.{kept_there}
use Rattle.library_grammar.proofs.laws.Sizes.{sizes}
use Rattle.library_grammar.proofs.TextThere.{text_there, no_item}

-- ---- where parts of a stream lie

module _ (stream before : List Entry) where
  -- two parts of what lies between
  pub split_part : (part rest after : List Entry) → stream ≡ before ++ ((part ++ rest) ++ after) → stream ≡ before ++ (part ++ (rest ++ after))
  split_part part rest after parts = parts ∙ ap (λ (es : List Entry). before ++ es) (append_assoc part rest after)

  -- the second of them, with the first in front
  pub second_part : (part after : List Entry) → stream ≡ before ++ (part ++ after) → stream ≡ (before ++ part) ++ after
  second_part part after parts = parts ∙ sym (append_assoc before part after)

-- ---- the checks of elements

-- It cannot be that not all checks of an element hold: its first PROPATTR or its ENDEL would show the fault of the first that fails.
pub checks_cannot_fail : (stream : List Entry) → IsInShape stream → NoneShows stream → (before : List Entry) (x : ElementParts) (after : List Entry)
    → stream ≡ before ++ (element_records x ++ after) → IsElement x → (All (ElementHolds x.own) (element_checks x.form) → ⊥) → ⊥
checks_cannot_fail stream shape none before x after parts is not_all =
    let closing = closing_begins x.properties x.last after is.properties is.ends in
    let front : List Entry = before ++ x.opening ∷ x.own in
    let in_place : stream ≡ before ++ (x.opening ∷ (x.own ++ closing.first ∷ closing.rest)) =
    parts ∙ ap (λ (es : List Entry). before ++ es) (element_behind x after ∙ ap (λ (es : List Entry). x.opening ∷ (x.own ++ es)) closing.parts)
    in
    let apart : stream ≡ front ++ closing.first ∷ closing.rest = in_place ∙ sym (append_assoc before (x.opening ∷ x.own) (closing.first ∷ closing.rest)) in
    let may : MayStand front closing.first = record { after = closing.rest; in_shape = subst IsInShape apart shape } in
    cannot_lack_both (ElementHolds x.own) (element_checks x.form) not_all
    (λ check fails. none front closing.rest closing.first (element_fault (behind 0 before) check) apart
    (is_faulty may
    (record { ends = closing.ends; earlier = before; opening = x.opening; parts = refl; opens = is.opens; are_own = is.are_own; place = refl })
    (record { check = check; is_first = fails; is_its_refusal = refl })))

-- ---- a stream in shape of which no record shows a fault

module _ (stream : List Entry) (shape : IsInShape stream) (none : NoneShows stream) (profile : All IsInProfile stream) where
  -- its records are of the profile
  in_profile : (before part after : List Entry) → stream ≡ before ++ (part ++ after) → All IsInProfile part
  in_profile before part after parts =
      All-front IsInProfile part after (All-back IsInProfile before (part ++ after) (All-same IsInProfile (before ++ (part ++ after)) stream (sym parts) profile))

  own_have_bytes : (x : ElementParts) → All IsInProfile (element_records x) → HaveBytes x.own
  own_have_bytes x all =
      let closing : List Entry = flat_map property_records x.properties ++ x.last ∷ [] in
      All-weaker IsInProfile (λ e. AreBytes e.body) (λ e h. h.spelled.body) x.own (All-front IsInProfile x.own closing (All-tail IsInProfile x.opening (x.own ++ closing) all))

  elements_there : (before : List Entry) (elements : List ElementParts) (after : List Entry) → stream ≡ before ++ (flat_map element_records elements ++ after)
      → All IsElement elements → CannotLack (SayElements (behind 0 before) elements)
  elements_there before [] after parts are refuted = refuted [] no_elements
  elements_there before (x ∷ elements) after parts are refuted =
      let is = All-head IsElement x elements are in
      let others : List Entry = flat_map element_records elements in
      let here = split_part stream before (element_records x) others after parts in
      let have = own_have_bytes x (in_profile before (element_records x) (others ++ after) here) in
      checks_cannot_fail stream shape none before x (others ++ after) here is
      (λ sound.
      let kept = kept_there (behind 0 before) x.own have x.form is.opens.listed sound in
      let keeps : IsKept (behind 0 before) x.own x.opening.kind kept.0 = subst (λ (k : ℕ). IsKept (behind 0 before) x.own k kept.0) (sym is.opens.opening) kept.1 in
      elements_there (before ++ element_records x) elements after (second_part stream before (element_records x) (others ++ after) here) (All-tail IsElement x elements are)
      (λ rest more.
      refuted (option_to_list kept.0 ++ rest) (one_element keeps (subst (λ (n : ℕ). SayElements n elements rest) (behind-append 0 before (element_records x)) more))))

  structure_there : (before : List Entry) (s : StructureParts) (after : List Entry) → stream ≡ before ++ (structure_records s ++ after) → IsStructure s
      → CannotLack (SaysStructure (behind 0 before) s)
  structure_there before s after parts is refuted =
      let head : List Entry = structure_head s in
      let elements : List Entry = flat_map element_records s.elements in
      let ending : List Entry = elements ++ s.last ∷ [] in
      let here = second_part stream before head (ending ++ after) (split_part stream before head ending after parts) in
      let profiles : All IsInProfile head = All-front IsInProfile head ending (in_profile before (structure_records s) after parts) in
      let class : List Entry = option_to_list s.class in
      let of_name : IsInProfile s.name = All-head IsInProfile s.name class (All-tail IsInProfile s.opening (s.name ∷ class) profiles) in
      let text = text_there s.name.body of_name.spelled.body in
      elements_there (before ++ head) s.elements (s.last ∷ after) (split_part stream (before ++ head) elements (s.last ∷ []) after here) is.elements
      (λ rest say.
      refuted (record { at = behind 0 before; name = text.text; elements = rest; name_fits = text.are_bytes })
      (record { place = refl; name = text.is_text; elements = subst (λ (n : ℕ). SayElements n s.elements rest) (behind-append 0 before head) say }))

  structures_there : (before : List Entry) (structures : List StructureParts) (after : List Entry) → stream ≡ before ++ (flat_map structure_records structures ++ after)
      → All IsStructure structures → CannotLack (SayStructures (behind 0 before) structures)
  structures_there before [] after parts are refuted = refuted [] no_structures
  structures_there before (s ∷ structures) after parts are refuted =
      let others : List Entry = flat_map structure_records structures in
      let here = split_part stream before (structure_records s) others after parts in
      structure_there before s (others ++ after) here (All-head IsStructure s structures are)
      (λ structure one.
      structures_there (before ++ structure_records s) structures after (second_part stream before (structure_records s) (others ++ after) here) (All-tail IsStructure s structures are)
      (λ rest more.
      refuted (structure ∷ rest) (one_structure one (subst (λ (n : ℕ). SayStructures n structures rest) (behind-append 0 before (structure_records s)) more))))

  library_there : CannotLack (IsLibrary stream)
  library_there refuted =
      let l = shape.library in
      let is = shape.in_grammar in
      let head = in_profile [] (library_head l) (flat_map structure_records l.structures ++ l.last ∷ []) shape.are_its in
      let to_units : List Entry = l.before_units ++ l.units ∷ [] in
      let to_name : List Entry = l.before_name ++ l.name ∷ to_units in
      let from_name = All-back IsInProfile l.before_name (l.name ∷ to_units) (All-tail IsInProfile l.opening to_name (All-tail IsInProfile l.version (l.opening ∷ to_name) head)) in
      let of_name : IsInProfile l.name = All-head IsInProfile l.name to_units from_name in
      let of_units : IsInProfile l.units = All-head IsInProfile l.units [] (All-back IsInProfile l.before_units (l.units ∷ []) (All-tail IsInProfile l.name to_units from_name)) in
      let text = text_there l.name.body of_name.spelled.body in
      structures_there (library_head l) l.structures (l.last ∷ []) shape.are_its is.structures
      (λ structures say.
      refuted
      (record {
        name = text.text;
        units = l.units.body;
        structures = structures;
        name_fits = text.are_bytes;
        units_count = sizes.units l.units of_units is.units;
        units_fit = of_units.spelled.body;
      })
      (record { in_shape = shape; says = record { name = text.is_text; units = refl; structures = say } }))

-- ---- bytes

pub nothing_shows : NoneShows []
nothing_shows before after e fault parts shown = no_item before after e parts

-- where no record is the first that shows a fault, none shows one
pub none_shows : (before rest : List Entry) → NoneShows before
    → ((front back : List Entry) (e : Entry) (fault : SyntaxFault) → before ++ rest ≡ front ++ e ∷ back → NoneShows front → Shows front e fault → ⊥)
    → NoneShows (before ++ rest)
none_shows before [] none no_first = subst NoneShows (sym (append-nil before)) none
none_shows before (e ∷ rest) none no_first =
    let same = append_assoc before (e ∷ []) rest in
    subst NoneShows same
    (none_shows (before ++ e ∷ []) rest (NoneShows-snoc before e none (λ fault shown. no_first before rest e fault refl none shown))
    (λ front back first fault parts. no_first front back first fault (sym same ∙ parts)))

pub split_comes_to_something : (bytes : List ℕ) (entries : List Entry) (end : End) → Splits 0 bytes entries end → NoneShows entries → CannotLack (BytesComeTo bytes)
split_comes_to_something bytes entries whole split none refuted =
    library_there entries (in_shape entries none split.ends) none split.each (λ library is. refuted (value library) (are_library split none is))
split_comes_to_something bytes entries (stops why) split none refuted = refuted (refused (record_fault why)) (have_fault split (at_end none))
