-- what an element is, as its own records say
use Rattle.std.specs.Prelude.{ℕ, ℤ, pos, ◌+ℤ◌, ◌*ℤ◌, List, IsTrue, Option, Some, None, ◌≡◌, ◌↔◌}
use Rattle.gds_records.specs.declared.kinds.TheConstants as kind
use Rattle.gds_records.specs.Fields.{IsText}
use Rattle.gds_records.specs.RecordSpelling.{Entry}
use Rattle.geo_core.specs.declared.plane.Turn.{Turn}
use Rattle.library_grammar.specs.OwnRecords.{body_of, point_in, points_of, unsigned_of, short_of, long_of, IsMirrored, HasQuarters}
use Rattle.library_grammar.specs.OwnRecords.{columns_of, rows_of, HasSteps}
use Rattle.library_model.specs.declared.element.Element.{Element}
use Rattle.library_model.specs.declared.element.Element.TheVariants.{Shape as shape_element, Reference as reference_element}
use Rattle.library_model.specs.declared.element.Shape.{Shape}
use Rattle.library_model.specs.declared.element.ShapeKind.{ShapeKind}
use Rattle.library_model.specs.declared.element.ShapeKind.TheVariants.{Boundary, BoxElement, Path}
use Rattle.library_model.specs.declared.element.Reference.{Reference}
use Rattle.library_model.specs.declared.element.Lattice.{Lattice}

-- the shape of an element that begins at this offset: its kind, and the record that has its datatype
pub record IsShape (at : ℕ) (shape_kind : ShapeKind) (datatype_kind : ℕ) (own : List Entry) (shape : Shape) : Type 0 where
  pub place : shape.at ≡ at
  pub is_kind : shape.kind ≡ shape_kind
  pub on_layer : shape.layer ≡ unsigned_of kind.LAYER own
  pub of_datatype : shape.datatype ≡ unsigned_of datatype_kind own
  pub has_points : shape.points ≡ points_of own

-- a path: its ends, its width and its extensions, each of which is 0 where it is absent
abbrev pub path_kind : List Entry → ShapeKind
path_kind own = Path (short_of kind.PATHTYPE own) (long_of kind.WIDTH own) (long_of kind.BGNEXTN own) (long_of kind.ENDEXTN own)

-- the turn of a reference: mirrored or not, and then turned by the quarters of its angle, of which four are none
pub record IsTurn (own : List Entry) (turn : Turn) : Type 0 where
  pub mirrors : IsTrue turn.reflect ↔ IsMirrored own
  pub circles : ℤ
  pub turns : HasQuarters own (pos turn.quarters +ℤ (pos 4 *ℤ circles))

-- a reference, but for how it is repeated
pub record IsReference (at : ℕ) (own : List Entry) (reference : Reference) : Type 0 where
  pub place : reference.at ≡ at
  pub is_target : IsText (body_of kind.SNAME own) reference.target
  pub is_turn : IsTurn own reference.turn
  pub is_origin : reference.origin ≡ point_in (body_of kind.XY own) 0

-- an array's columns and rows
pub record IsLattice (own : List Entry) (lattice : Lattice) : Type 0 where
  pub columns : pos lattice.columns ≡ columns_of own
  pub rows : pos lattice.rows ≡ rows_of own
  pub steps : HasSteps own lattice.column_step lattice.row_step

-- what is kept of an element that begins at this offset, by the record that opens it and its own records
pub data IsKept (at : ℕ) (own : List Entry) : ℕ → Option Element → Type 0 where
  boundary : {shape : Shape} → IsShape at Boundary kind.DATATYPE own shape → IsKept at own kind.BOUNDARY (Some (shape_element shape))
  path : {shape : Shape} → IsShape at (path_kind own) kind.DATATYPE own shape → IsKept at own kind.PATH (Some (shape_element shape))
  sref : {reference : Reference} → IsReference at own reference → reference.lattice ≡ None
      → IsKept at own kind.SREF (Some (reference_element reference))
  aref : {reference : Reference} {lattice : Lattice} → IsReference at own reference → reference.lattice ≡ Some lattice
      → IsLattice own lattice → IsKept at own kind.AREF (Some (reference_element reference))
  text : IsKept at own kind.TEXT None
  node : IsKept at own kind.NODE None
  box : {shape : Shape} → IsShape at BoxElement kind.BOXTYPE own shape → IsKept at own kind.BOX (Some (shape_element shape))
