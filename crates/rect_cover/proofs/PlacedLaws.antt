-- placed shapes, and what holds of their points
use Rattle.std.proofs.Common.{Global, ℤ, ◌≡◌, List, [], ◌∷◌, map, ◌<◌, length, get_or, sym, ◌∙◌, ap, subst, Some, Vec, Result, Ok, Err, to_z, of_z, w16, w32, w64, arith, All, FitsSigned, slice_get}
use Rattle.lists.proofs.Words.{to_z-of_z, get_or_from_slice_get, slice_get_within, length-map, map-append, get_or-map}
use Rattle.first_refusal.specs.Answers.{Answers, gives, refuses, no_memory}
use Rattle.first_refusal.specs.Outcomes.{value, refused}
use Rattle.geo_core.specs.Plane.{IsInRange, IsOutline}
use Rattle.geo_core.specs.declared.plane.Point.{Point}
use Rattle.geo_core.specs.declared.plane.Rect.{Rect}
use Rattle.library_model.specs.Points.{HasItsPoints}
use Rattle.library_model.specs.declared.element.Element.{Element}
use Rattle.library_model.specs.declared.element.Element.TheVariants.{Shape as shape_element}
use Rattle.library_model.specs.declared.element.Shape.{Shape}
use Rattle.library_model.specs.declared.element.ShapeKind.{ShapeKind}
use Rattle.library_model.specs.declared.element.ShapeKind.TheVariants.{Boundary, BoxElement, Path}
use Rattle.library_model.specs.declared.library.Structure.{Structure}
use Rattle.flatten.specs.declared.placed.Placed.{Placed}
use Rattle.rect_cover.specs.Coverings.{IsPlacedShape, IsWellPlaced, CoverComesTo, PlacedComesTo, placed_points, with_items}
use Rattle.rect_cover.specs.declared.fault.CoverFault.{CoverFault}
use Rattle.rect_cover.specs.declared.fault.CoverFault.TheVariants.{Memory}
use Rattle.rect_cover.proofs.laws.PlacedShapes.{placed_shapes_agree}

module _ (structures : List Structure) (placed : Placed) where
  -- what is read at the numbers of a placed shape is that shape
  module _ (shape : Shape) (given : IsPlacedShape structures placed shape) (structure : Structure) (at_structure : structure ≡ get_or structures placed.structure structure) where
    structure_read : structure ≡ given.structure
    structure_read = at_structure ∙ get_or_from_slice_get structures placed.structure given.structure structure given.is_structure

    its_element : slice_get structure.elements placed.element ≡ Some (shape_element shape)
    its_element = subst (λ s. slice_get s.elements placed.element ≡ Some (shape_element shape)) (sym structure_read) given.is_element

    pub element_within : placed.element < length structure.elements
    element_within = slice_get_within structure.elements placed.element (shape_element shape) its_element

    pub element_read : (element : Element) → element ≡ get_or structure.elements placed.element element → element ≡ shape_element shape
    element_read element at_element = at_element ∙ get_or_from_slice_get structure.elements placed.element (shape_element shape) element its_element

    pub shape_read : (element : Element) (read : Shape) → element ≡ get_or structure.elements placed.element element → element ≡ shape_element read → IsPlacedShape structures placed read
    shape_read element read at_element is =
        let same_element = element_read element at_element in
        let same_shape : shape ≡ read = cc in
        subst (λ s. IsPlacedShape structures placed s) same_shape given

module _ {X Y : Type 0} (P : Y → Type 0) (f : X → Y) where
  pub all_before_map : (xs : List X) → All P (map f xs) → All (λ x. P (f x)) xs
  all_before_map xs all k d within = subst P (get_or-map f xs k d (f d) within) (all k (f d) (omega (arith, length-map xs f)))

-- an outline stays one where its points come to lie
still_outline : (f : Point → Point) (points : List Point) → IsOutline points → IsOutline (map f points)
still_outline f points outline =
    let closed = outline.closed in
    let few = outline.count in
    record {
      count = omega (arith, length-map points f);
      closed = record {
        first = f closed.first;
        between = map f closed.between;
        parts = ap (map f) closed.parts ∙ ap (λ l. f closed.first ∷ l) (map-append f closed.between (closed.first ∷ []));
      };
    }

-- a shape keeps as many points as it has to have
pub points_kept : (f : Point → Point) (points : List Point) (kind : ShapeKind) → HasItsPoints kind points → HasItsPoints kind (map f points)
points_kept f points Boundary outline = still_outline f points outline
points_kept f points BoxElement outline = still_outline f points outline
points_kept f points (Path pathtype width begin end) some = omega (arith, length-map points f)

-- numbers that were passed on in a style are those of the kind
pub style_kept : (kind : ShapeKind) (pathtype width begin end : ℤ) → FitsSigned w16 pathtype → FitsSigned w32 width → FitsSigned w32 begin → FitsSigned w32 end → kind ≡ Path pathtype width begin end
    → Path (to_z w16 (of_z w16 pathtype)) (to_z w32 (of_z w32 width)) (to_z w32 (of_z w32 begin)) (to_z w32 (of_z w32 end)) ≡ kind
style_kept kind pathtype width begin end p w b e is = cc (to_z-of_z w16 pathtype p, to_z-of_z w32 width w, to_z-of_z w32 begin b, to_z-of_z w32 end e)

-- a coordinate that was widened
pub widened : (wide z : ℤ) → FitsSigned w64 wide → FitsSigned w32 z → wide ≡ to_z w32 (of_z w32 z) → to_z w64 (of_z w64 wide) ≡ z
widened wide z fits small is = to_z-of_z w64 wide fits ∙ is ∙ to_z-of_z w32 z small

-- what the cover of the placed shape comes to is what that of its kind comes to where its points lie
pub shape_comes : (structures : List Structure) (placed : Placed) (shape : Shape) → IsPlacedShape structures placed shape
    → (result : Result (Vec Rect Global) CoverFault) (points : List Point) → points ≡ placed_points placed shape
    → Answers Memory (λ outcome. CoverComesTo shape.kind points shape.at (with_items outcome)) result → Answers Memory (λ outcome. PlacedComesTo structures placed (with_items outcome)) result
shape_comes structures placed shape is (Ok rects) points there (gives comes) =
    gives (record { shape = shape; is_shape = is; comes = subst (λ ps. CoverComesTo shape.kind ps shape.at (value rects.items)) there comes })
shape_comes structures placed shape is (Err fault) points there (refuses comes) =
    refuses (record { shape = shape; is_shape = is; comes = subst (λ ps. CoverComesTo shape.kind ps shape.at (refused fault)) there comes })
shape_comes structures placed shape is (Err fault) points there no_memory = no_memory

-- what is so of a well placed shape is so of the shape that is found
module _ (structures : List Structure) (placed : Placed) (given : IsWellPlaced structures placed) (shape : Shape) (is : IsPlacedShape structures placed shape) where
  same : given.shape ≡ shape
  same = placed_shapes_agree structures placed given.shape shape given.is_shape is

  pub its_points : HasItsPoints shape.kind shape.points
  its_points = subst (λ s. HasItsPoints s.kind s.points) same given.has_points

  pub its_range : All IsInRange (placed_points placed shape)
  its_range = subst (λ s. All IsInRange (placed_points placed s)) same given.in_range
