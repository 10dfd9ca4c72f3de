-- What a written element is, by the grammar: its form, its own records, and what is kept of it.
use Rattle.std.proofs.Common.{◌≡◌, ℕ, Bool, List, All, Contains, Option, Some, None, refl, arith, length, true, nat_eq}
use Rattle.lists.proofs.Words.{list_all, list_any}
use Rattle.std.specs.Set.{distinct_count}
use Rattle.library_grammar.specs.GrammarNames.{AreDifferent, HasItsPoints, Entry, ElementHolds, element_checks, ElementForm, boundary_form, path_form, sref_form, aref_form, box_form, element_forms}
use Rattle.library_grammar.specs.GrammarNames.{own_kinds, Opens, IsKept, kinds_of}
use Rattle.library_model.specs.declared.element.Element.{Element}
use Rattle.library_model.specs.declared.element.Element.TheVariants.{Shape as shape_element, Reference as reference_element}
use Rattle.library_model.specs.declared.element.Lattice.{Lattice}
use Rattle.library_model.specs.declared.element.Reference.{Reference}
use Rattle.library_model.specs.declared.element.Shape.{Shape}
use Rattle.library_model.specs.declared.element.ShapeKind.{ShapeKind}
use Rattle.library_model.specs.declared.element.ShapeKind.TheVariants.{Boundary, BoxElement, Path}
use Rattle.gds_write.specs.WellFormed.{IsWritableElement, IsWritableReference}
use Rattle.gds_write.specs.Written.{opening_of_shape, opening_of_reference, opening_of, own_of}
use Rattle.gds_write.proofs.ReferenceLaws.{reference_at, aref_holds, aref_kept, reference_own, reference_parts, reference_written, sref_holds, sref_kept}
use Rattle.gds_write.proofs.ShapeLaws.{shape_at, form_of_shape, shape_holds, shape_kept, shape_own, shape_parts, shape_written}
use Rattle.gds_write.proofs.FieldLaws.{all_among, all_differ, part_kinds, written_of}

-- an element that begins at another offset
abbrev pub element_at : ℕ → Element → Element
element_at at (shape_element shape) = shape_element (shape_at at shape)
element_at at (reference_element reference) = reference_element (reference_at at reference)

-- the form of what a reference is written as
abbrev pub form_of_reference : Option Lattice → ElementForm
form_of_reference None = sref_form
form_of_reference (Some lattice) = aref_form

-- and of an element
abbrev pub form_of_element : Element → ElementForm
form_of_element (shape_element shape) = form_of_shape shape.kind
form_of_element (reference_element reference) = form_of_reference reference.lattice

-- what the grammar says of an element that is written as these own records and read as this
pub record IsReadAs (opening : ℕ) (form : ElementForm) (own : List Entry) (read : ℕ → Element) : Type 0 where
  pub opens : Opens opening form
  pub are_own : All (Contains (own_kinds form)) (kinds_of own)
  pub once : AreDifferent (kinds_of own)
  pub holds : All (ElementHolds own) (element_checks form)
  pub kept : (at : ℕ) → IsKept at own opening (Some (read at))

-- that own records are those of a form, by computing with the kinds of all that may be written
reads_by : (form : ElementForm) (parts : List (Bool × Entry)) (own : List Entry) (read : ℕ → Element) → own ≡ written_of parts → Contains element_forms form
    → list_all (λ k. list_any (nat_eq k) (own_kinds form)) (part_kinds parts) ≡ true → distinct_count nat_eq (part_kinds parts) ≡ length (part_kinds parts)
    → All (ElementHolds own) (element_checks form) → ((at : ℕ) → IsKept at own form.opening (Some (read at))) → IsReadAs form.opening form own read
reads_by form parts own read same listed among differ holds kept =
    let opens : Opens form.opening form = record { listed = listed; opening = refl } in
    record { opens = opens; are_own = rw same (all_among (own_kinds form) parts among); once = rw same (all_differ parts differ); holds = holds; kept = kept }

shape_reads : (shape : Shape) (k : ShapeKind) → shape.kind ≡ k → HasItsPoints k shape.points
    → IsReadAs (opening_of_shape k) (form_of_shape k) (shape_own shape.layer shape.datatype shape.points k) (λ at. shape_element (shape_at at shape))
shape_reads shape Boundary is pointed =
    reads_by boundary_form (shape_parts shape.layer shape.datatype shape.points Boundary) _ _ refl (0, omega arith, refl) refl refl
    (shape_holds shape.layer shape.datatype shape.points Boundary shape.points_fit pointed) (λ at. shape_kept at shape Boundary is)
shape_reads shape BoxElement is pointed =
    reads_by box_form (shape_parts shape.layer shape.datatype shape.points BoxElement) _ _ refl (6, omega arith, refl) refl refl
    (shape_holds shape.layer shape.datatype shape.points BoxElement shape.points_fit pointed) (λ at. shape_kept at shape BoxElement is)
shape_reads shape (Path pathtype width begin end) is pointed =
    let of_path : ShapeKind = Path pathtype width begin end in
    reads_by path_form (shape_parts shape.layer shape.datatype shape.points of_path) _ _ (shape_written shape.layer shape.datatype shape.points of_path) (1, omega arith, refl) refl refl
    (shape_holds shape.layer shape.datatype shape.points of_path shape.points_fit pointed) (λ at. shape_kept at shape of_path is)

reference_reads : (reference : Reference) (lattice : Option Lattice) → reference.lattice ≡ lattice → IsWritableReference reference → IsReadAs (opening_of_reference lattice)
    (form_of_reference lattice) (reference_own reference.target reference.turn reference.origin lattice) (λ at. reference_element (reference_at at reference))
reference_reads reference None is writable =
    reads_by sref_form (reference_parts reference.target reference.turn reference.origin None) _ _ (reference_written reference.target reference.turn reference.origin None)
    (2, omega arith, refl) refl refl (sref_holds 0 reference writable is) (λ at. sref_kept at reference writable is)
reference_reads reference (Some lattice) is writable =
    reads_by aref_form (reference_parts reference.target reference.turn reference.origin (Some lattice)) _ _ (reference_written reference.target reference.turn reference.origin (Some lattice))
    (3, omega arith, refl) refl refl (aref_holds 0 reference lattice writable is) (λ at. aref_kept at reference lattice writable is)

pub element_reads : (element : Element) → IsWritableElement element → IsReadAs (opening_of element) (form_of_element element) (own_of element) (λ at. element_at at element)
element_reads (shape_element shape) writable = shape_reads shape shape.kind refl writable.points
element_reads (reference_element reference) writable = reference_reads reference reference.lattice refl writable
