-- The records that a library is written as.
use Rattle.std.specs.Prelude.{ℕ, ℤ, pos, ◌+ℤ◌, ◌*ℤ◌, Bool, not, ◌||◌, ◌==◌, if◌then◌else◌, List, [], ◌∷◌, ◌++◌, Option, Some, None}
use Rattle.std.specs.Prelude.{flat_map}
use Rattle.byteorder.specs.Endian.{big_bytes}
use Rattle.geo_core.specs.declared.plane.Point.{Point}
use Rattle.geo_core.specs.declared.plane.Turn.{Turn}
use Rattle.gds_records.specs.declared.forms.TheConstants as form
use Rattle.gds_records.specs.declared.kinds.TheConstants as kind
use Rattle.library_grammar.specs.GrammarNames.{Entry}
use Rattle.library_model.specs.declared.element.Element.{Element}
use Rattle.library_model.specs.declared.element.Element.TheVariants.{Shape as shape_element, Reference as reference_element}
use Rattle.library_model.specs.declared.element.Lattice.{Lattice}
use Rattle.library_model.specs.declared.element.Reference.{Reference}
use Rattle.library_model.specs.declared.element.Shape.{Shape}
use Rattle.library_model.specs.declared.element.ShapeKind.{ShapeKind}
use Rattle.library_model.specs.declared.element.ShapeKind.TheVariants.{Boundary, BoxElement, Path}
use Rattle.library_model.specs.declared.library.Library.{Library}
use Rattle.library_model.specs.declared.library.Structure.{Structure}
use Rattle.gds_write.specs.Bodies.{entry, bare, text_entry, unsigned_entry, short_entry, long_entry, date_entry, points_entry, counts_entry}
use Rattle.gds_write.specs.Bodies.{entry_if, is_not_zero}

-- the kind of the record that opens a shape
abbrev pub opening_of_shape : ShapeKind → ℕ
opening_of_shape Boundary = kind.BOUNDARY
opening_of_shape BoxElement = kind.BOX
opening_of_shape (Path pathtype width begin end) = kind.PATH

-- the kind of the record that has its datatype, or of a box its type
abbrev pub datatype_kind : ShapeKind → ℕ
datatype_kind Boundary = kind.DATATYPE
datatype_kind BoxElement = kind.BOXTYPE
datatype_kind (Path pathtype width begin end) = kind.DATATYPE

-- what only a path has, each where it is not 0
abbrev pub path_records : ShapeKind → List Entry
path_records Boundary = []
path_records BoxElement = []
path_records (Path pathtype width begin end) =
    entry_if (is_not_zero pathtype) (short_entry kind.PATHTYPE pathtype) ++ entry_if (is_not_zero width) (long_entry kind.WIDTH width)
    ++ entry_if (is_not_zero begin) (long_entry kind.BGNEXTN begin) ++ entry_if (is_not_zero end) (long_entry kind.ENDEXTN end)

-- a shape's own records
abbrev pub own_of_shape : Shape → List Entry
own_of_shape shape =
    unsigned_entry kind.LAYER shape.layer ∷ unsigned_entry (datatype_kind shape.kind) shape.datatype ∷ path_records shape.kind
    ++ points_entry shape.points ∷ []

-- STRANS, whose highest bit is set where the turn mirrors
abbrev pub strans_entry : Bool → Entry
strans_entry reflect = entry kind.STRANS form.BITS (big_bytes 2 (if reflect then 0x8000 else 0))

-- 90, 180 or 270 degrees as an eight-byte real, by quarters of a circle
abbrev pub angle_bits : ℕ → ℕ
angle_bits quarters = if quarters == 1 then 0x425A000000000000 else if quarters == 2 then 0x42B4000000000000 else 0x4310E00000000000

-- ANGLE
abbrev pub angle_entry : ℕ → Entry
angle_entry quarters = entry kind.ANGLE form.EIGHT_BYTE_REALS (big_bytes 8 (angle_bits quarters))

-- the turn: nothing where it changes nothing, and no ANGLE where it only mirrors
abbrev pub turn_records : Turn → List Entry
turn_records turn =
    entry_if (turn.reflect || not (turn.quarters == 0)) (strans_entry turn.reflect)
    ++ entry_if (not (turn.quarters == 0)) (angle_entry turn.quarters)

-- the point, moved by so many equal steps
abbrev pub moved_by : ℕ → ℤ × ℤ → Point → Point
moved_by count step p = record { x = p.x +ℤ (pos count *ℤ step.0); y = p.y +ℤ (pos count *ℤ step.1) }

-- the points of an array: its origin, and where this comes by all columns and by all rows
abbrev pub array_points : Point → Lattice → List Point
array_points origin lattice =
    origin ∷ moved_by lattice.columns lattice.column_step origin ∷ moved_by lattice.rows lattice.row_step origin ∷ []

-- how a reference is repeated, and where
abbrev pub placing_records : Point → Option Lattice → List Entry
placing_records origin None = points_entry (origin ∷ []) ∷ []
placing_records origin (Some lattice) =
    counts_entry lattice.columns lattice.rows ∷ points_entry (array_points origin lattice) ∷ []

-- a reference's own records
abbrev pub own_of_reference : Reference → List Entry
own_of_reference reference =
    text_entry kind.SNAME reference.target ∷ turn_records reference.turn ++ placing_records reference.origin reference.lattice

-- the kind of the record that opens a reference
abbrev pub opening_of_reference : Option Lattice → ℕ
opening_of_reference None = kind.SREF
opening_of_reference (Some lattice) = kind.AREF

-- the kind of the record that opens an element
abbrev pub opening_of : Element → ℕ
opening_of (shape_element shape) = opening_of_shape shape.kind
opening_of (reference_element reference) = opening_of_reference reference.lattice

-- its own records
abbrev pub own_of : Element → List Entry
own_of (shape_element shape) = own_of_shape shape
own_of (reference_element reference) = own_of_reference reference

-- an element: the record that opens it, its own records, and ENDEL
abbrev pub written_element : Element → List Entry
written_element element = bare (opening_of element) ∷ own_of element ++ bare kind.ENDEL ∷ []

-- a structure: BGNSTR without dates, STRNAME, its elements, and ENDSTR
abbrev pub written_structure : Structure → List Entry
written_structure structure =
    date_entry kind.BGNSTR ∷ text_entry kind.STRNAME structure.name ∷ flat_map written_element structure.elements
    ++ bare kind.ENDSTR ∷ []

-- what stands in front of the structures: HEADER, BGNLIB without dates, LIBNAME and UNITS. Release 6 has the version 600.
abbrev pub written_head : Library → List Entry
written_head library =
    unsigned_entry kind.HEADER 600 ∷ date_entry kind.BGNLIB ∷ text_entry kind.LIBNAME library.name
    ∷ entry kind.UNITS form.EIGHT_BYTE_REALS library.units ∷ []

-- a library: this, its structures, and ENDLIB
abbrev pub written : Library → List Entry
written library = written_head library ++ flat_map written_structure library.structures ++ bare kind.ENDLIB ∷ []
