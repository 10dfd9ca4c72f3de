-- Each record that is written has a spelling and stands in the table.
use Rattle.std.proofs.Common.{◌≡◌, ℕ, zero, suc, ◌*◌, ◌%◌, ◌<◌, ◌≤◌, ℤ, Bool, true, false, ◌==◌, if◌then◌else◌, List, [], ◌∷◌, ◌++◌, length, refl, sym, arith, Option, Some, None, length-append, w16}
use Rattle.std.proofs.Common.{w32, ◌||◌, not}
use Rattle.lists.proofs.Words.{cast_unsigned, flat_map, eqb-true, eqb-false, append-nil, All-append, All-cons}
use Rattle.std.specs.Int.{byte_at}
use Rattle.std.proofs.lemmas.List.Elements.{All-replicate}
use Rattle.byteorder.specs.Endian.{big_bytes}
use Rattle.geo_core.specs.declared.plane.Point.{Point}
use Rattle.library_grammar.specs.GrammarNames.{IsText, IsInProfile, IsByte, AreBytes, IsPermitted}
use Rattle.gds_records.specs.declared.forms.TheConstants as form
use Rattle.gds_records.specs.declared.kinds.TheConstants as kind
use Rattle.gds_records.specs.Table.{table}
use Rattle.gds_records.proofs.laws.Rules.{permits_any, permits_exactly, permits_multiple_of_eight}
use Rattle.geo_core.specs.declared.plane.Turn.{Turn}
use Rattle.library_model.specs.declared.element.Element.{Element}
use Rattle.library_model.specs.declared.element.Element.TheVariants.{Shape as shape_element, Reference as reference_element}
use Rattle.library_model.specs.declared.element.Lattice.{Lattice}
use Rattle.library_model.specs.declared.element.Reference.{Reference}
use Rattle.library_model.specs.declared.element.Shape.{Shape}
use Rattle.library_model.specs.declared.element.ShapeKind.{ShapeKind}
use Rattle.library_model.specs.declared.element.ShapeKind.TheVariants.{Boundary, BoxElement, Path}
use Rattle.library_model.specs.declared.library.Library.{Library}
use Rattle.library_model.specs.declared.library.Structure.{Structure}
use Rattle.gds_write.specs.Bodies.{entry, bare, padded, text_entry, unsigned_entry, long_bytes, long_entry, short_entry, date_entry, point_bytes, points_entry, is_not_zero}
use Rattle.gds_write.specs.WellFormed.{IsWritableName, IsWritableShape, IsWritableReference, IsWritableElement, IsWritableStructure, IsWellFormed}
use Rattle.gds_write.specs.Written.{opening_of_shape, datatype_kind, path_records, own_of_shape, strans_entry, angle_bits, angle_entry, turn_records, array_points, placing_records, own_of_reference}
use Rattle.gds_write.specs.Written.{opening_of_reference, written_element, written_structure, written}
use Rattle.gds_write.proofs.Every.{Every, none, more, both, maybe, one, each_part}

-- ---- bytes

byte_fits : (k n : ℕ) → byte_at k n < 256
byte_fits zero n = omega arith
byte_fits (suc k) n = omega arith

pub big_bytes_are_bytes : (n x : ℕ) → AreBytes (big_bytes n x)
big_bytes_are_bytes zero x = λ k d l. absurd (omega arith)
big_bytes_are_bytes (suc n) x = All-cons IsByte (byte_at n x) (big_bytes n x) (byte_fits n x) (big_bytes_are_bytes n x)

pub points_are_bytes : (points : List Point) → AreBytes (flat_map point_bytes points)
points_are_bytes [] = λ k d l. absurd (omega arith)
points_are_bytes (p ∷ points) =
    All-append IsByte (point_bytes p) (flat_map point_bytes points)
    (All-append IsByte (long_bytes p.x) (long_bytes p.y) (big_bytes_are_bytes 4 (cast_unsigned w32 p.x)) (big_bytes_are_bytes 4 (cast_unsigned w32 p.y)))
    (points_are_bytes points)

pub length-points : (points : List Point) → length (flat_map point_bytes points) ≡ 8 * length points
length-points [] = refl
length-points (p ∷ points) = omega (arith, length-points points)

-- ---- texts

-- a body that a text is filled up to
pub record Fills (text body : List ℕ) : Type 0 where
  pub even : length body % 2 ≡ 0
  pub short : length body ≤ 65530
  pub bytes : AreBytes body
  pub is_text : IsText body text

fills_by : (text : List ℕ) (b : Bool) → IsWritableName text → AreBytes text → (length text % 2 == 0) ≡ b → Fills text (if b then text else text ++ 0 ∷ [])
fills_by text true name bytes e =
    record {
      even = eqb-true (length text % 2) 0 e;
      short = name.short;
      bytes = bytes;
      is_text = record { zeros = []; parts = sym (append-nil text); each_zero = λ k d l. absurd (omega arith); no_zero_last = name.no_zero_last };
    }
fills_by text false name bytes e =
    let odd = eqb-false (length text % 2) 0 e in
    let more = length-append text (0 ∷ []) in
    let short = name.short in
    record {
      even = omega arith;
      short = omega arith;
      bytes = All-append IsByte text (0 ∷ []) bytes (All-cons IsByte 0 [] (omega arith) (λ k d l. absurd (omega arith)));
      is_text = record { zeros = 0 ∷ []; parts = refl; each_zero = All-cons (λ b. b ≡ 0) 0 [] refl (λ k d l. absurd (omega arith)); no_zero_last = name.no_zero_last };
    }

pub padded_fills : (text : List ℕ) → IsWritableName text → AreBytes text → Fills text (padded text)
padded_fills text name bytes = fills_by text (length text % 2 == 0) name bytes refl

-- ---- records

-- a record of a kind that the table permits with this form and this size
pub taken : (k f : ℕ) (body : List ℕ) → k < 256 → f < 256 → AreBytes body → length body % 2 ≡ 0 → length body ≤ 65530
    → IsPermitted k f (length body) → IsInProfile (entry k f body)
taken k f body kind_fits form_fits bytes even short permitted =
    record {
      spelled = record { kind = kind_fits; form = form_fits; body = bytes; even = even; fits = omega arith };
      permitted = permitted;
    }

bare_taken : (k : ℕ) → k < 256 → IsPermitted k form.NO_DATA 0 → IsInProfile (bare k)
bare_taken k fits permitted = taken k form.NO_DATA [] fits (omega arith) (λ i d l. absurd (omega arith)) refl (omega arith) permitted

date_taken : (k : ℕ) → k < 256 → IsPermitted k form.TWO_BYTE_NUMBERS 24 → IsInProfile (date_entry k)
date_taken k fits permitted = taken k form.TWO_BYTE_NUMBERS _ fits (omega arith) (All-replicate IsByte 24 0 (omega arith)) refl (omega arith) permitted

text_taken : (k : ℕ) (text : List ℕ) → k < 256 → ((n : ℕ) → IsPermitted k form.TEXT n) → IsWritableName text → AreBytes text → IsInProfile (text_entry k text)
text_taken k text fits permitted name bytes =
    let fills = padded_fills text name bytes in
    taken k form.TEXT (padded text) fits (omega arith) fills.bytes fills.even fills.short (permitted (length (padded text)))

unsigned_taken : (k n : ℕ) → k < 256 → IsPermitted k form.TWO_BYTE_NUMBERS 2 → IsInProfile (unsigned_entry k n)
unsigned_taken k n fits permitted = taken k form.TWO_BYTE_NUMBERS (big_bytes 2 n) fits (omega arith) (big_bytes_are_bytes 2 n) refl (omega arith) permitted

long_taken : (k : ℕ) (z : ℤ) → k < 256 → IsPermitted k form.FOUR_BYTE_NUMBERS 4 → IsInProfile (long_entry k z)
long_taken k z fits permitted =
    taken k form.FOUR_BYTE_NUMBERS (long_bytes z) fits (omega arith) (big_bytes_are_bytes 4 (cast_unsigned w32 z)) refl (omega arith) permitted

points_taken : (points : List Point) → length points ≤ 8191 → IsInProfile (points_entry points)
unfolding table
points_taken points few =
    let size = length-points points in
    taken kind.XY form.FOUR_BYTE_NUMBERS (flat_map point_bytes points) (omega arith) (omega arith) (points_are_bytes points)
    (omega arith) (omega arith) (permits_multiple_of_eight kind.XY form.FOUR_BYTE_NUMBERS _ refl (omega arith))

-- ---- a library's parts

opening_of_shape_taken : (kind : ShapeKind) → IsInProfile (bare (opening_of_shape kind))
unfolding table
opening_of_shape_taken Boundary = bare_taken kind.BOUNDARY (omega arith) (permits_exactly kind.BOUNDARY form.NO_DATA 0 0 refl refl)
opening_of_shape_taken BoxElement = bare_taken kind.BOX (omega arith) (permits_exactly kind.BOX form.NO_DATA 0 0 refl refl)
opening_of_shape_taken (Path pathtype width begin end) = bare_taken kind.PATH (omega arith) (permits_exactly kind.PATH form.NO_DATA 0 0 refl refl)

datatype_taken : (kind : ShapeKind) (n : ℕ) → IsInProfile (unsigned_entry (datatype_kind kind) n)
unfolding table
datatype_taken Boundary n = unsigned_taken kind.DATATYPE n (omega arith) (permits_exactly kind.DATATYPE form.TWO_BYTE_NUMBERS 2 2 refl refl)
datatype_taken BoxElement n = unsigned_taken kind.BOXTYPE n (omega arith) (permits_exactly kind.BOXTYPE form.TWO_BYTE_NUMBERS 2 2 refl refl)
datatype_taken (Path pathtype width begin end) n = unsigned_taken kind.DATATYPE n (omega arith) (permits_exactly kind.DATATYPE form.TWO_BYTE_NUMBERS 2 2 refl refl)

path_taken : (kind : ShapeKind) → Every IsInProfile (path_records kind)
unfolding table
path_taken Boundary = none
path_taken BoxElement = none
path_taken (Path pathtype width begin end) =
    both
    (both
    (both (maybe (is_not_zero pathtype) (short_entry kind.PATHTYPE pathtype) (unsigned_taken kind.PATHTYPE (cast_unsigned w16 pathtype) (omega arith)
    (permits_exactly kind.PATHTYPE form.TWO_BYTE_NUMBERS 2 2 refl refl)))
    (maybe (is_not_zero width) (long_entry kind.WIDTH width) (long_taken kind.WIDTH width (omega arith) (permits_exactly kind.WIDTH form.FOUR_BYTE_NUMBERS 4 4 refl refl))))
    (maybe (is_not_zero begin) (long_entry kind.BGNEXTN begin) (long_taken kind.BGNEXTN begin (omega arith) (permits_exactly kind.BGNEXTN form.FOUR_BYTE_NUMBERS 4 4 refl refl))))
    (maybe (is_not_zero end) (long_entry kind.ENDEXTN end) (long_taken kind.ENDEXTN end (omega arith) (permits_exactly kind.ENDEXTN form.FOUR_BYTE_NUMBERS 4 4 refl refl)))

own_of_shape_taken : (shape : Shape) → IsWritableShape shape → Every IsInProfile (own_of_shape shape)
unfolding table
own_of_shape_taken shape writable =
    more (unsigned_taken kind.LAYER shape.layer (omega arith) (permits_exactly kind.LAYER form.TWO_BYTE_NUMBERS 2 2 refl refl))
    (more (datatype_taken shape.kind shape.datatype) (both (path_taken shape.kind) (one (points_taken shape.points writable.few))))

turn_taken : (turn : Turn) → Every IsInProfile (turn_records turn)
unfolding table
turn_taken turn =
    both
    (maybe (turn.reflect || not (turn.quarters == 0)) (strans_entry turn.reflect)
    (taken kind.STRANS form.BITS (strans_entry turn.reflect).body (omega arith) (omega arith) (big_bytes_are_bytes 2 (if turn.reflect then 0x8000 else 0)) refl (omega arith)
    (permits_exactly kind.STRANS form.BITS 2 2 refl refl)))
    (maybe (not (turn.quarters == 0)) (angle_entry turn.quarters)
    (taken kind.ANGLE form.EIGHT_BYTE_REALS (angle_entry turn.quarters).body (omega arith) (omega arith)
    (big_bytes_are_bytes 8 (angle_bits turn.quarters)) refl (omega arith) (permits_exactly kind.ANGLE form.EIGHT_BYTE_REALS 8 8 refl refl)))

placing_taken : (origin : Point) (lattice : Option Lattice) → Every IsInProfile (placing_records origin lattice)
unfolding table
placing_taken origin None = one (points_taken (origin ∷ []) (omega arith))
placing_taken origin (Some lattice) =
    more
    (taken kind.COLROW form.TWO_BYTE_NUMBERS (big_bytes 2 lattice.columns ++ big_bytes 2 lattice.rows) (omega arith) (omega arith)
    (All-append IsByte (big_bytes 2 lattice.columns) (big_bytes 2 lattice.rows) (big_bytes_are_bytes 2 lattice.columns) (big_bytes_are_bytes 2 lattice.rows)) refl (omega arith)
    (permits_exactly kind.COLROW form.TWO_BYTE_NUMBERS 4 4 refl refl))
    (one (points_taken (array_points origin lattice) (omega arith)))

own_of_reference_taken : (reference : Reference) → IsWritableReference reference → Every IsInProfile (own_of_reference reference)
unfolding table
own_of_reference_taken reference writable =
    more (text_taken kind.SNAME reference.target (omega arith) (λ n. permits_any kind.SNAME form.TEXT n refl) writable.target reference.target_fits)
    (both (turn_taken reference.turn) (placing_taken reference.origin reference.lattice))

opening_of_reference_taken : (lattice : Option Lattice) → IsInProfile (bare (opening_of_reference lattice))
unfolding table
opening_of_reference_taken None = bare_taken kind.SREF (omega arith) (permits_exactly kind.SREF form.NO_DATA 0 0 refl refl)
opening_of_reference_taken (Some lattice) = bare_taken kind.AREF (omega arith) (permits_exactly kind.AREF form.NO_DATA 0 0 refl refl)

endel_taken : IsInProfile (bare kind.ENDEL)
unfolding table
endel_taken = bare_taken kind.ENDEL (omega arith) (permits_exactly kind.ENDEL form.NO_DATA 0 0 refl refl)

element_taken : (element : Element) → IsWritableElement element → Every IsInProfile (written_element element)
element_taken (shape_element shape) writable =
    more (opening_of_shape_taken shape.kind) (both (own_of_shape_taken shape writable) (one endel_taken))
element_taken (reference_element reference) writable =
    more (opening_of_reference_taken reference.lattice) (both (own_of_reference_taken reference writable) (one endel_taken))

structure_taken : (structure : Structure) → IsWritableStructure structure → Every IsInProfile (written_structure structure)
unfolding table
structure_taken structure writable =
    more (date_taken kind.BGNSTR (omega arith) (permits_any kind.BGNSTR form.TWO_BYTE_NUMBERS 24 refl))
    (more (text_taken kind.STRNAME structure.name (omega arith) (λ n. permits_any kind.STRNAME form.TEXT n refl) writable.name structure.name_fits)
    (both (each_part IsWritableElement written_element element_taken structure.elements writable.elements)
    (one (bare_taken kind.ENDSTR (omega arith) (permits_exactly kind.ENDSTR form.NO_DATA 0 0 refl refl)))))

pub library_taken : (library : Library) → IsWellFormed library → Every IsInProfile (written library)
unfolding table
library_taken library well_formed =
    let count = library.units_count in
    more (taken kind.HEADER form.TWO_BYTE_NUMBERS (big_bytes 2 600) (omega arith) (omega arith) (big_bytes_are_bytes 2 600) refl (omega arith) (permits_any kind.HEADER form.TWO_BYTE_NUMBERS 2 refl))
    (more (date_taken kind.BGNLIB (omega arith) (permits_any kind.BGNLIB form.TWO_BYTE_NUMBERS 24 refl))
    (more (text_taken kind.LIBNAME library.name (omega arith) (λ n. permits_any kind.LIBNAME form.TEXT n refl) well_formed.name library.name_fits)
    (more (taken kind.UNITS form.EIGHT_BYTE_REALS library.units (omega arith) (omega arith) library.units_fit (omega arith) (omega arith)
    (permits_exactly kind.UNITS form.EIGHT_BYTE_REALS (length library.units) 16 refl count))
    (both (each_part IsWritableStructure written_structure structure_taken library.structures well_formed.structures)
    (one (bare_taken kind.ENDLIB (omega arith) (permits_exactly kind.ENDLIB form.NO_DATA 0 0 refl refl)))))))
