-- Which libraries can be written so that their bytes read back.
use Rattle.std.specs.Prelude.{◌≢◌, ℕ, ◌≤◌, List, [], ◌∷◌, ◌++◌, length, All, IfSome}
use Rattle.library_grammar.specs.GrammarNames.{AreDifferent, names_of, HasItsPoints, ArePoints}
use Rattle.library_model.specs.declared.element.Element.{Element}
use Rattle.library_model.specs.declared.element.Element.TheVariants.{Shape as shape_element, Reference as reference_element}
use Rattle.library_model.specs.declared.element.Reference.{Reference}
use Rattle.library_model.specs.declared.element.Shape.{Shape}
use Rattle.library_model.specs.declared.library.Library.{Library}
use Rattle.library_model.specs.declared.library.Structure.{Structure}
use Rattle.gds_write.specs.Written.{array_points}

-- the name has at most 65,530 bytes, of which the last is not zero
pub record IsWritableName (name : List ℕ) : Type 0 where
  pub short : length name ≤ 65530
  pub no_zero_last : (front : List ℕ) → name ≢ front ++ 0 ∷ []

-- the shape has its points, and no more than a record holds
pub record IsWritableShape (shape : Shape) : Type 0 where
  pub few : length shape.points ≤ 8191
  pub points : HasItsPoints shape.kind shape.points

-- the reference names what can be named, and each point of an array fits four bytes a coordinate. That an array has 1 to 32,767
-- columns and rows, its type says.
pub record IsWritableReference (reference : Reference) : Type 0 where
  pub target : IsWritableName reference.target
  pub lattice : IfSome reference.lattice (λ lattice. ArePoints (array_points reference.origin lattice))

-- either of them
abbrev pub IsWritableElement : Element → Type 0
IsWritableElement (shape_element shape) = IsWritableShape shape
IsWritableElement (reference_element reference) = IsWritableReference reference

-- the structure has a name and elements that can be written
pub record IsWritableStructure (structure : Structure) : Type 0 where
  pub name : IsWritableName structure.name
  pub elements : All IsWritableElement structure.elements

-- the library's name and its structures can be written, and no two structures have one name
pub record IsWellFormed (library : Library) : Type 0 where
  pub name : IsWritableName library.name
  pub differ : AreDifferent (names_of library.structures)
  pub structures : All IsWritableStructure library.structures
