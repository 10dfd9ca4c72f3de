-- Libraries that are the same, but for the offsets at which their parts begin.
use Rattle.std.specs.Prelude.{◌≡◌}
use Rattle.lists.specs.Words.{AllZip}
use Rattle.library_model.specs.declared.element.Element.{Element}
use Rattle.library_model.specs.declared.element.Element.TheVariants.{Shape as shape_element, Reference as reference_element}
use Rattle.library_model.specs.declared.element.Reference.{Reference}
use Rattle.library_model.specs.declared.element.Shape.{Shape}
use Rattle.library_model.specs.declared.library.Library.{Library}
use Rattle.library_model.specs.declared.library.Structure.{Structure}

-- two shapes
pub record IsSameShape (one other : Shape) : Type 0 where
  pub kind : one.kind ≡ other.kind
  pub layer : one.layer ≡ other.layer
  pub datatype : one.datatype ≡ other.datatype
  pub points : one.points ≡ other.points

-- two references
pub record IsSameReference (one other : Reference) : Type 0 where
  pub target : one.target ≡ other.target
  pub turn : one.turn ≡ other.turn
  pub origin : one.origin ≡ other.origin
  pub lattice : one.lattice ≡ other.lattice

-- two elements
pub data IsSameElement : Element → Element → Type 0 where
  shapes : {one other : Shape} → IsSameShape one other → IsSameElement (shape_element one) (shape_element other)
  references : {one other : Reference} → IsSameReference one other → IsSameElement (reference_element one) (reference_element other)

-- two structures
pub record IsSameStructure (one other : Structure) : Type 0 where
  pub name : one.name ≡ other.name
  pub elements : AllZip IsSameElement one.elements other.elements

-- two libraries
pub record IsSameButOffsets (one other : Library) : Type 0 where
  pub name : one.name ≡ other.name
  pub units : one.units ≡ other.units
  pub structures : AllZip IsSameStructure one.structures other.structures
