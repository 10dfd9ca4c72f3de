-- The parts of a library that bytes come to are well formed.
use Rattle.std.proofs.Common.{◌≡◌, ℕ, ℤ, pos, ◌+ℤ◌, ◌*ℤ◌, ◌+◌, ◌≤◌, List, [], ◌∷◌, ◌++◌, length, All, Option, Some, None, IfSome, sym, ap, subst, ◌∙◌, arith, FitsSigned, option_to_list, w32}
use Rattle.std.proofs.Common.{length-append}
use Rattle.lists.proofs.Words.{All-weaker, All-nil, All-cons, All-head, All-tail, All-same, flat_map}
use Rattle.library_grammar.specs.GrammarNames.{value, IsText, IsInProfile, Entry, IsKept, boundary, path, sref, aref, box, IsReference, IsLattice, BytesComeTo, are_library, property_records}
use Rattle.library_grammar.specs.GrammarNames.{ElementParts, element_records, StructureParts, structure_head, structure_records, library_head, library_records, SayElements, SaysStructure}
use Rattle.library_grammar.specs.GrammarNames.{SayStructures, body_of, point_in, points_of, Leads, HasItsPoints, IsWellPointed, AreWellPointed, IsPoint, ArePoints}
use Rattle.geo_core.specs.declared.plane.Point.{Point}
use Rattle.gds_records.specs.declared.kinds.TheConstants as kind
use Rattle.library_grammar.specs.Libraries.{no_more as no_elements, one_more as one_element, no_more as no_structures, one_more as one_structure}
use Rattle.library_model.specs.declared.element.Element.{Element}
use Rattle.library_model.specs.declared.element.Lattice.{Lattice}
use Rattle.library_model.specs.declared.element.Reference.{Reference}
use Rattle.library_model.specs.declared.element.Shape.{Shape}
use Rattle.library_model.specs.declared.library.Library.{Library}
use Rattle.library_model.specs.declared.library.Structure.{Structure}
use Rattle.lists.proofs.Containing.{All-front, All-back}
use Rattle.library_grammar.proofs.laws.Fields.{body_has}
use Rattle.library_grammar.proofs.laws.Kept.{with_kept}
use Rattle.library_grammar.proofs.laws.Libraries.{library_names_differ, library_is_pointed}
use Rattle.library_grammar.proofs.laws.Points.{point_fits, length-points_of}
use Rattle.gds_write.specs.WellFormed.{IsWritableName, IsWritableShape, IsWritableReference, IsWritableElement, IsWritableStructure, IsWellFormed}
use Rattle.gds_write.specs.Written.{array_points, moved_by}

-- ---- bodies are short

short_entry : (e : Entry) → IsInProfile e → length e.body ≤ 65530
short_entry e in_profile = omega (arith, in_profile.spelled.even, in_profile.spelled.fits)

short_body : (own : List Entry) → All IsInProfile own → (k : ℕ) → length (body_of k own) ≤ 65530
short_body own all k = body_has (λ body. length body ≤ 65530) (omega arith) k own (All-weaker IsInProfile (λ e. length e.body ≤ 65530) short_entry own all)

name_is_writable : (body name : List ℕ) → IsText body name → length body ≤ 65530 → IsWritableName name
name_is_writable body name says short =
    let count : length body ≡ length name + length says.zeros = ap length says.parts ∙ length-append name says.zeros in
    record { short = omega arith; no_zero_last = says.no_zero_last }

-- ---- elements

few_points : (own : List Entry) → All IsInProfile own → length (points_of own) ≤ 8191
few_points own all = let count = length-points_of own in let short = short_body own all kind.XY in omega arith

shape_is_writable : (own : List Entry) (shape : Shape) → All IsInProfile own → shape.points ≡ points_of own → HasItsPoints shape.kind shape.points → IsWritableShape shape
shape_is_writable own shape all has pointed =
    record { few = subst (λ (points : List Point). length points ≤ 8191) (sym has) (few_points own all); points = pointed }

moved_fits : (count : ℕ) (signed : ℤ) (from to : Point) (step : ℤ × ℤ) → pos count ≡ signed → Leads signed from to step → IsPoint to → IsPoint (moved_by count step from)
moved_fits count signed from to step same leads fits =
    record {
      across = subst (FitsSigned w32) (sym (ap (λ (n : ℤ). from.x +ℤ (n *ℤ step.0)) same ∙ leads.across)) fits.across;
      up = subst (FitsSigned w32) (sym (ap (λ (n : ℤ). from.y +ℤ (n *ℤ step.1)) same ∙ leads.up)) fits.up;
    }

three_fit : (a b c : Point) → IsPoint a → IsPoint b → IsPoint c → ArePoints (a ∷ b ∷ c ∷ [])
three_fit a b c of_a of_b of_c =
    All-cons IsPoint a (b ∷ c ∷ []) of_a (All-cons IsPoint b (c ∷ []) of_b (All-cons IsPoint c [] of_c (All-nil IsPoint)))

array_fits : (own : List Entry) (lattice : Lattice) → IsLattice own lattice → ArePoints (array_points (point_in (body_of kind.XY own) 0) lattice)
array_fits own lattice is =
    let body : List ℕ = body_of kind.XY own in
    let by_columns = moved_fits lattice.columns _ (point_in body 0) (point_in body 1) lattice.column_step is.columns is.steps.columns (point_fits body 1) in
    let by_rows = moved_fits lattice.rows _ (point_in body 0) (point_in body 2) lattice.row_step is.rows is.steps.rows (point_fits body 2) in
    three_fit _ _ _ (point_fits body 0) by_columns by_rows

abbrev HasFittingLattice : Point → Option Lattice → Type 0
HasFittingLattice origin lattice = IfSome lattice (λ l. ArePoints (array_points origin l))

reference_is_writable : {at : ℕ} (own : List Entry) (reference : Reference) → All IsInProfile own → IsReference at own reference
    → HasFittingLattice reference.origin reference.lattice → IsWritableReference reference
reference_is_writable own reference all is fits =
    record { target = name_is_writable (body_of kind.SNAME own) reference.target is.is_target (short_body own all kind.SNAME); lattice = fits }

kept_is_writable : (at : ℕ) (own : List Entry) (k : ℕ) (kept : Option Element) → All IsInProfile own → IsKept at own k kept → IfSome kept IsWellPointed → IfSome kept IsWritableElement
kept_is_writable at own _ _ all (boundary {shape} is) pointed = shape_is_writable own shape all is.has_points pointed
kept_is_writable at own _ _ all (path {shape} is) pointed = shape_is_writable own shape all is.has_points pointed
kept_is_writable at own _ _ all (sref {reference} is none) pointed =
    reference_is_writable own reference all is (subst (HasFittingLattice reference.origin) (sym none) tt)
kept_is_writable at own _ _ all (aref {reference} {lattice} is repeated of_lattice) pointed =
    reference_is_writable own reference all is
    (subst (HasFittingLattice reference.origin) (sym repeated)
    (subst (λ (origin : Point). ArePoints (array_points origin lattice)) (sym is.is_origin) (array_fits own lattice of_lattice)))
kept_is_writable at own _ _ all (box {shape} is) pointed = shape_is_writable own shape all is.has_points pointed
kept_is_writable at own _ _ all _ pointed = tt

of_kept : (P : Element → Type 0) (kept : Option Element) (rest : List Element) → All P (option_to_list kept ++ rest) → IfSome kept P × All P rest
of_kept P None rest all = (tt, all)
of_kept P (Some x) rest all = (All-head P x rest all, All-tail P x rest all)

elements_are_writable : (at : ℕ) (parts : List ElementParts) (elements : List Element) → SayElements at parts elements → All IsInProfile (flat_map element_records parts)
    → All IsWellPointed elements → All IsWritableElement elements
elements_are_writable at _ _ no_elements all pointed = All-nil IsWritableElement
elements_are_writable at _ _ (one_element {element = x} {others = others} {kept = kept} {elements = rest} keeps more) all pointed =
    let records : List Entry = flat_map element_records others in
    let closing : List Entry = flat_map property_records x.properties ++ x.last ∷ [] in
    let first : All IsInProfile (element_records x) = All-front IsInProfile (element_records x) records all in
    let own = All-front IsInProfile x.own closing (All-tail IsInProfile x.opening (x.own ++ closing) first) in
    let apart = of_kept IsWellPointed kept rest pointed in
    with_kept IsWritableElement kept rest (kept_is_writable at x.own x.opening.kind kept own keeps apart.0)
    (elements_are_writable _ others rest more (All-back IsInProfile (element_records x) records all) apart.1)

-- ---- structures

structure_is_writable : (at : ℕ) (s : StructureParts) (structure : Structure) → SaysStructure at s structure → All IsInProfile (structure_records s)
    → All IsWellPointed structure.elements → IsWritableStructure structure
structure_is_writable at s structure says all pointed =
    let class : List Entry = option_to_list s.class in
    let elements : List Entry = flat_map element_records s.elements in
    let head = All-front IsInProfile (structure_head s) (elements ++ s.last ∷ []) all in
    let rest = All-back IsInProfile (structure_head s) (elements ++ s.last ∷ []) all in
    let name = All-head IsInProfile s.name class (All-tail IsInProfile s.opening (s.name ∷ class) head) in
    record {
      name = name_is_writable s.name.body structure.name says.name (short_entry s.name name);
      elements = elements_are_writable _ s.elements structure.elements says.elements (All-front IsInProfile elements (s.last ∷ []) rest) pointed;
    }

structures_are_writable : (at : ℕ) (parts : List StructureParts) (structures : List Structure) → SayStructures at parts structures
    → All IsInProfile (flat_map structure_records parts) → AreWellPointed structures → All IsWritableStructure structures
structures_are_writable at _ _ no_structures all pointed = All-nil IsWritableStructure
structures_are_writable at _ _ (one_structure {parts = s} {others = others} {structure = structure} {structures = rest} says more) all pointed =
    let ArePointed : Structure → Type 0 = λ s. All IsWellPointed s.elements in
    let records : List Entry = flat_map structure_records others in
    All-cons IsWritableStructure structure rest
    (structure_is_writable at s structure says (All-front IsInProfile (structure_records s) records all) (All-head ArePointed structure rest pointed))
    (structures_are_writable _ others rest more (All-back IsInProfile (structure_records s) records all) (All-tail ArePointed structure rest pointed))

-- ---- libraries

-- a library that bytes come to is well formed
pub come_to_well_formed : (bytes : List ℕ) (library : Library) → BytesComeTo bytes (value library) → IsWellFormed library
come_to_well_formed bytes library comes = of_library bytes library comes comes
  where
    of_library : (bytes : List ℕ) (library : Library) → BytesComeTo bytes (value library) → BytesComeTo bytes (value library) → IsWellFormed library
    of_library bytes library comes (are_library {entries = entries} split none is) =
        let l = is.in_shape.library in
        let structures : List Entry = flat_map structure_records l.structures in
        let to_units : List Entry = l.before_units ++ l.units ∷ [] in
        let to_name : List Entry = l.before_name ++ l.name ∷ to_units in
        let all = All-same IsInProfile (library_records l) entries (sym is.in_shape.are_its) split.each in
        let head = All-front IsInProfile (library_head l) (structures ++ l.last ∷ []) all in
        let rest = All-back IsInProfile (library_head l) (structures ++ l.last ∷ []) all in
        let from_name = All-back IsInProfile l.before_name (l.name ∷ to_units) (All-tail IsInProfile l.opening to_name (All-tail IsInProfile l.version (l.opening ∷ to_name) head)) in
        record {
          name = name_is_writable l.name.body library.name is.says.name (short_entry l.name (All-head IsInProfile l.name to_units from_name));
          differ = library_names_differ bytes library comes;
          structures = structures_are_writable _ l.structures library.structures is.says.structures (All-front IsInProfile structures (l.last ∷ []) rest)
              (library_is_pointed bytes library comes);
        }
