-- The parts of a library say one library at most, and so do its records.
use Rattle.std.proofs.Common.{◌≡◌, ℕ, List, ◌∷◌, ◌++◌, Option, refl, sym, ap, subst, ◌∙◌, option_to_list}
use Rattle.library_grammar.specs.GrammarNames.{IsUnique, Entry, ElementParts, element_records, StructureParts, structure_records, LibraryParts, behind, SayElements, SayStructures, SaysLibrary}
use Rattle.library_grammar.specs.GrammarNames.{IsLibrary}
use Rattle.gds_records.proofs.laws.Bodies.{texts_agree}
use Rattle.library_grammar.specs.Libraries.{no_more as no_elements, one_more as one_element, no_more as no_structures, one_more as one_structure}
use Rattle.library_model.specs.declared.element.Element.{Element}
use Rattle.library_model.specs.declared.library.Structure.{Structure}
use Rattle.library_model.proofs.laws.SameParts.{same_structure, same_library}
use Rattle.library_grammar.proofs.KeptAgree.{kept_agree}
use Rattle.library_grammar.proofs.PartsAgree.{libraries_agree}

elements_agree : (at : ℕ) (parts : List ElementParts) → IsUnique (SayElements at parts)
elements_agree at _ _ _ no_elements no_elements = refl
elements_agree at _ _ _ (one_element {element = e} {others = others} {kept = kept} {elements = elements} one more) (one_element {kept = kept'} {elements = elements'} one' more') =
    ap (λ (o : Option Element). option_to_list o ++ elements) (kept_agree at e.own e.opening.kind kept kept' one one')
    ∙ ap (λ (es : List Element). option_to_list kept' ++ es) (elements_agree (behind at (element_records e)) others elements elements' more more')

structures_agree : (at : ℕ) (parts : List StructureParts) → IsUnique (SayStructures at parts)
structures_agree at _ _ _ no_structures no_structures = refl
structures_agree at _ _ _ (one_structure {parts = parts} {others = others} {structure = s} {structures = structures} one more) (one_structure {structure = t} {structures = structures'} one' more') =
    let same : s ≡ t =
    same_structure s t (one.place ∙ sym one'.place) (texts_agree parts.name.body s.name t.name one.name one'.name)
    (elements_agree _ parts.elements s.elements t.elements one.elements one'.elements)
    in
    ap (λ (x : Structure). x ∷ structures) same ∙ ap (λ (xs : List Structure). t ∷ xs) (structures_agree (behind at (structure_records parts)) others structures structures' more more')

sayings_agree : (parts : LibraryParts) → IsUnique (SaysLibrary parts)
sayings_agree parts l m a b =
    same_library l m (texts_agree parts.name.body l.name m.name a.name b.name) (a.units ∙ sym b.units) (structures_agree _ parts.structures l.structures m.structures a.structures b.structures)

-- records say one library at most
pub libraries_of_records_agree : (entries : List Entry) → IsUnique (IsLibrary entries)
libraries_of_records_agree entries one other a b =
    let parts : a.in_shape.library ≡ b.in_shape.library =
    libraries_agree a.in_shape.library b.in_shape.library a.in_shape.in_grammar b.in_shape.in_grammar (sym a.in_shape.are_its ∙ b.in_shape.are_its)
    in
    sayings_agree a.in_shape.library one other a.says (subst (λ (p : LibraryParts). SaysLibrary p other) (sym parts) b.says)
