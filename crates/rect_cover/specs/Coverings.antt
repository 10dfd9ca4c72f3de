-- what the cover of a placed shape comes to: rectangles, or the fault of the first check that fails
use Rattle.std.specs.Prelude.{ℕ, ◌≡◌, List, map, All, Vec, slice_get, Some}
use Rattle.lists.specs.Words.{Global, AllZip}
use Rattle.first_refusal.specs.Outcomes.{Outcome, value, refused}
use Rattle.first_refusal.specs.Checks.{Checks, IsFirstFailing}
use Rattle.geo_core.specs.Plane.{IsInRange}
use Rattle.geo_core.specs.declared.plane.Point.{Point}
use Rattle.geo_core.specs.declared.plane.Rect.{Rect}
use Rattle.library_model.specs.Points.{HasItsPoints}
use Rattle.library_model.specs.declared.element.Element.TheVariants.{Shape as shape_element}
use Rattle.library_model.specs.declared.element.Shape.{Shape}
use Rattle.library_model.specs.declared.element.ShapeKind.{ShapeKind}
use Rattle.library_model.specs.declared.library.Structure.{Structure}
use Rattle.flatten.specs.Motions.{image_by}
use Rattle.flatten.specs.declared.placed.Placed.{Placed}
use Rattle.outlines.specs.Fillings.{IsCover}
use Rattle.rect_cover.specs.Covers.{Covers}
use Rattle.rect_cover.specs.ShapeChecks.{ShapeHolds, checks_of, shape_fault}
use Rattle.rect_cover.specs.declared.fault.CoverFault.{CoverFault}

-- what the cover of a shape of this kind comes to, whose points come to lie here and which begins at this offset
abbrev pub CoverComesTo : ShapeKind → List Point → ℕ → Outcome (List Rect) CoverFault → Type 0
CoverComesTo kind points at = Checks (ShapeHolds points) (checks_of kind) (shape_fault at) (IsCover (Covers kind points))

-- the shape is the one that is placed
pub record IsPlacedShape (structures : List Structure) (placed : Placed) (shape : Shape) : Type 0 where
  pub structure : Structure
  pub is_structure : slice_get structures placed.structure ≡ Some structure
  pub is_element : slice_get structure.elements placed.element ≡ Some (shape_element shape)
  pub begins : placed.at ≡ shape.at

-- where a point comes to lie by the placing
abbrev pub placed_at : Placed → Point → Point
placed_at placed point = image_by (record { turn = placed.turn; dx = placed.dx; dy = placed.dy }) point

-- where the shape's points come to lie
abbrev pub placed_points : Placed → Shape → List Point
placed_points placed shape = map (placed_at placed) shape.points

-- a shape is placed: it has the points that a shape of its kind has to have, and they come to lie in range
pub record IsWellPlaced (structures : List Structure) (placed : Placed) : Type 0 where
  pub shape : Shape
  pub is_shape : IsPlacedShape structures placed shape
  pub has_points : HasItsPoints shape.kind shape.points
  pub in_range : All IsInRange (placed_points placed shape)

-- what the cover of a placed shape comes to
pub record PlacedComesTo (structures : List Structure) (placed : Placed) (outcome : Outcome (List Rect) CoverFault) : Type 0 where
  pub shape : Shape
  pub is_shape : IsPlacedShape structures placed shape
  pub comes : CoverComesTo shape.kind (placed_points placed shape) shape.at outcome

-- the placed shape has a cover: no check of it fails
abbrev pub IsCoverable : List Structure → Placed → Type 0
IsCoverable structures placed = (rects : List Rect) × PlacedComesTo structures placed (value rects)

-- the fault is that of the first placed shape that has one
pub record IsFirstCoverFault (structures : List Structure) (placed : List Placed) (fault : CoverFault) : Type 0 where
  pub one : Placed
  pub is_first : IsFirstFailing (IsCoverable structures) placed one
  pub is_its_fault : PlacedComesTo structures one (refused fault)

-- what the covers of placed shapes come to: one list for each, in their order, or the fault of the first that has one
pub data AllComeTo (structures : List Structure) (placed : List Placed) : Outcome (List (List Rect)) CoverFault → Type 0 where
  all_covered : {lists : List (List Rect)} → AllZip (λ one list. PlacedComesTo structures one (value list)) placed lists →
      AllComeTo structures placed (value lists)
  one_refused : {fault : CoverFault} → IsFirstCoverFault structures placed fault → AllComeTo structures placed (refused fault)

-- the outcome with a list as it lies in memory, as one with its items
abbrev pub with_items : {X : Type 0} → Outcome (Vec X Global) CoverFault → Outcome (List X) CoverFault
with_items (value list) = value list.items
with_items (refused fault) = refused fault
