-- the points that a shape has to have
use Rattle.std.specs.Prelude.{List, length, All, ◌≤◌}
use Rattle.geo_core.specs.Plane.{IsOutline}
use Rattle.geo_core.specs.declared.plane.Point.{Point}
use Rattle.library_model.specs.declared.element.Element.{Element}
use Rattle.library_model.specs.declared.element.Element.TheVariants.{Shape as shape_element, Reference as reference_element}
use Rattle.library_model.specs.declared.element.ShapeKind.{ShapeKind}
use Rattle.library_model.specs.declared.element.ShapeKind.TheVariants.{Boundary, BoxElement, Path}
use Rattle.library_model.specs.declared.library.Structure.{Structure}

-- the points that a shape of this kind has to have: an outline, or for a path one or more
abbrev pub HasItsPoints : ShapeKind → List Point → Type 0
HasItsPoints Boundary points = IsOutline points
HasItsPoints BoxElement points = IsOutline points
HasItsPoints (Path pathtype width begin end) points = 1 ≤ length points

-- where the element is a shape, it has its points
abbrev pub IsWellPointed : Element → Type 0
IsWellPointed (shape_element shape) = HasItsPoints shape.kind shape.points
IsWellPointed (reference_element reference) = Unit {0}

-- each shape of the structures has its points
abbrev pub AreWellPointed : List Structure → Type 0
AreWellPointed structures = All (λ structure. All IsWellPointed structure.elements) structures
