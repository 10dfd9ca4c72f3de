-- one shape is placed, and where its points come to lie
use Rattle.std.proofs.Common.{ℤ, ◌≡◌, ◌+ℤ◌, List, sym, ◌∙◌, ap, Some, slice_get}
use Rattle.geo_core.specs.Plane.{image_under}
use Rattle.geo_core.specs.declared.plane.Point.{Point}
use Rattle.geo_core.proofs.TurnLaws.{same_at}
use Rattle.library_model.specs.declared.element.Element.TheVariants.{Shape as shape_element}
use Rattle.library_model.specs.declared.element.Shape.{Shape}
use Rattle.library_model.specs.declared.library.Structure.{Structure}
use Rattle.flatten.specs.declared.placed.Placed.{Placed}
use Rattle.rect_cover.specs.Coverings.{IsPlacedShape, placed_at}

pub placed_shapes_agree : (structures : List Structure) (placed : Placed) (one other : Shape) → IsPlacedShape structures placed one → IsPlacedShape structures placed other → one ≡ other
placed_shapes_agree structures placed one other first second =
    let same : Some first.structure ≡ Some second.structure = sym first.is_structure ∙ second.is_structure in
    let alike : first.structure ≡ second.structure = cc in
    let same_element : Some (shape_element one) ≡ Some (shape_element other) =
    sym first.is_element ∙ ap (λ s. slice_get s.elements placed.element) alike ∙ second.is_element in
    cc

-- where a point lies that was turned and then shifted, coordinate by coordinate
module _ (placed : Placed) (point : Point) (x y : ℤ) (same_x : x ≡ point.x) (same_y : y ≡ point.y) where
  turned : image_under placed.turn (record { x = x; y = y }) ≡ image_under placed.turn point
  turned = ap (image_under placed.turn) (same_at x y point.x point.y same_x same_y)

  pub lies_across : (a d : ℤ) → a ≡ (image_under placed.turn (record { x = x; y = y })).x → d ≡ placed.dx → a +ℤ d ≡ (placed_at placed point).x
  lies_across a d is by = cc (ap (λ p. p.x) turned)

  pub lies_up : (a d : ℤ) → a ≡ (image_under placed.turn (record { x = x; y = y })).y → d ≡ placed.dy → a +ℤ d ≡ (placed_at placed point).y
  lies_up a d is by = cc (ap (λ p. p.y) turned)
