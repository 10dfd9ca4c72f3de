-- No written record shows a fault.
use Rattle.std.proofs.Common.{◌≡◌, ℕ, List, [], ◌∷◌, ◌++◌, All, Contains, Some, refl, sym, ap, subst, ◌∙◌, arith, append_assoc}
use Rattle.lists.proofs.Words.{append-nil, flat_map, All-head, All-tail, All-from_recursion}
use Rattle.lists.proofs.Differing.{different_apart}
use Rattle.gds_records.specs.declared.kinds.TheConstants as kind
use Rattle.library_grammar.specs.GrammarNames.{AreDifferent, Entry, ElementForm, element_forms, NoneShows, names_of, IsPlain, Place, among_own, before_header, behind_strname, between_elements}
use Rattle.library_grammar.specs.GrammarNames.{between_structures, behind_endlib, before_strname, next_place}
use Rattle.library_model.specs.declared.element.Element.{Element}
use Rattle.library_model.specs.declared.library.Library.{Library}
use Rattle.library_model.specs.declared.library.Structure.{Structure}
use Rattle.gds_write.specs.Bodies.{bare, date_entry, text_entry}
use Rattle.gds_write.specs.WellFormed.{IsWritableElement, IsWritableStructure, IsWellFormed}
use Rattle.gds_write.specs.Written.{written_element, written_structure, written_head, written}
use Rattle.library_grammar.proofs.laws.Forms.{begins_element, begins_first, plain}
use Rattle.library_grammar.proofs.laws.Standing.{GoesOn, starts, goes_further, goes_plainly, goes_named, goes_element}
use Rattle.gds_write.proofs.ReadLaws.{element_in_grammar, element_parts}
use Rattle.gds_write.proofs.ElementLaws.{element_reads}
use Rattle.gds_write.proofs.ProfileLaws.{padded_fills}

-- one plain record
goes_by_one : (k : ℕ) (e : Entry) (from to : Place) (names : List (List ℕ)) → e.kind ≡ k → IsPlain k → next_place from k ≡ Some to → GoesOn from names (e ∷ []) to names
goes_by_one k e from to names same is_plain leads =
    let next : next_place from e.kind ≡ Some to = ap (next_place from) same ∙ leads in
    goes_plainly (e ∷ []) from to names (All-from_recursion (λ o. IsPlain o.kind) (e ∷ []) (subst IsPlain (sym same) is_plain, tt)) (rw next refl)

-- elements and the end of their structure, from a place where either may follow
elements_go : (p : Place) (names : List (List ℕ)) (elements : List Element) → ((form : ElementForm) → Contains element_forms form → next_place p form.opening ≡ Some (among_own form []))
    → next_place p kind.ENDSTR ≡ Some between_structures → All IsWritableElement elements
    → GoesOn p names (flat_map written_element elements ++ bare kind.ENDSTR ∷ []) between_structures names
elements_go p names [] begins ends writable = goes_by_one kind.ENDSTR (bare kind.ENDSTR) p between_structures names refl (plain kind.ENDSTR refl) ends
elements_go p names (x ∷ elements) begins ends writable =
    let rest : List Entry = flat_map written_element elements in
    let reads = element_reads x (All-head IsWritableElement x elements writable) in
    let first = goes_element (element_parts x) p names (element_in_grammar x (All-head IsWritableElement x elements writable)) reads.holds (begins _ reads.opens.listed) in
    let others = elements_go between_elements names elements begins_element refl (All-tail IsWritableElement x elements writable) in
    subst (λ (es : List Entry). GoesOn p names es between_structures names) (sym (append_assoc (written_element x) rest (bare kind.ENDSTR ∷ [])))
    (goes_further (written_element x) (rest ++ bare kind.ENDSTR ∷ []) first others)

-- a structure whose name is new
structure_goes : (names : List (List ℕ)) (structure : Structure) → IsWritableStructure structure → (Contains names structure.name → ⊥)
    → GoesOn between_structures names (written_structure structure) between_structures (names ++ structure.name ∷ [])
structure_goes names structure writable fresh =
    let name : Entry = text_entry kind.STRNAME structure.name in
    let rest : List Entry = flat_map written_element structure.elements ++ bare kind.ENDSTR ∷ [] in
    goes_further (date_entry kind.BGNSTR ∷ []) (name ∷ rest)
    (goes_by_one kind.BGNSTR (date_entry kind.BGNSTR) between_structures before_strname names refl (plain kind.BGNSTR refl) refl)
    (goes_further (name ∷ []) rest (goes_named names structure.name name refl (padded_fills structure.name writable.name structure.name_fits).is_text fresh)
    (elements_go behind_strname (names ++ structure.name ∷ []) structure.elements begins_first refl writable.elements))

structures_go : (names : List (List ℕ)) (structures : List Structure) → All IsWritableStructure structures → AreDifferent (names ++ names_of structures)
    → GoesOn between_structures names (flat_map written_structure structures ++ bare kind.ENDLIB ∷ []) behind_endlib (names ++ names_of structures)
structures_go names [] writable differ =
    subst (λ (more : List (List ℕ)). GoesOn between_structures names (bare kind.ENDLIB ∷ []) behind_endlib more) (sym (append-nil names))
    (goes_by_one kind.ENDLIB (bare kind.ENDLIB) between_structures behind_endlib names refl (plain kind.ENDLIB refl) refl)
structures_go names (s ∷ structures) writable differ =
    let rest : List Entry = flat_map written_structure structures in
    let same : (names ++ s.name ∷ []) ++ names_of structures ≡ names ++ s.name ∷ names_of structures = append_assoc names (s.name ∷ []) (names_of structures) in
    let first = structure_goes names s (All-head IsWritableStructure s structures writable) (λ has. different_apart names (s.name ∷ names_of structures) s.name differ has (0, omega arith, refl)) in
    let others = structures_go (names ++ s.name ∷ []) structures (All-tail IsWritableStructure s structures writable) (subst AreDifferent (sym same) differ) in
    let all = goes_further (written_structure s) (rest ++ bare kind.ENDLIB ∷ []) first others in
    subst (λ (more : List (List ℕ)). GoesOn between_structures names ((written_structure s ++ rest) ++ bare kind.ENDLIB ∷ []) behind_endlib more) same
    (subst (λ (es : List Entry). GoesOn between_structures names es behind_endlib ((names ++ s.name ∷ []) ++ names_of structures))
    (sym (append_assoc (written_structure s) rest (bare kind.ENDLIB ∷ []))) all)

pub none_shows : (library : Library) → IsWellFormed library → NoneShows (written library)
none_shows library well_formed =
    let head = goes_plainly (written_head library) before_header between_structures []
    (All-from_recursion (λ o. IsPlain o.kind) (written_head library) (plain _ refl, (plain _ refl, (plain _ refl, (plain _ refl, tt))))) refl in
    let rest = structures_go [] library.structures well_formed.structures well_formed.differ in
    (goes_further (written_head library) (flat_map written_structure library.structures ++ bare kind.ENDLIB ∷ []) head rest [] starts).none_shows
