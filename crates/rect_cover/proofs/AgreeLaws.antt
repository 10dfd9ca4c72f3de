-- what the cover of a placed shape comes to, in one way at most
use Rattle.std.proofs.Common.{ℕ, ◌≡◌, subst, List, ◌↔◌}
use Rattle.first_refusal.specs.Outcomes.{Outcome, value, refused}
use Rattle.first_refusal.specs.Checks.{all_hold, one_fails}
use Rattle.first_refusal.proofs.CheckLaws.{none_fails, first_refusals_agree}
use Rattle.geo_core.specs.Plane.{IsInUnion}
use Rattle.geo_core.specs.declared.plane.Point.{Point}
use Rattle.geo_core.specs.declared.plane.Cell.{Cell}
use Rattle.geo_core.specs.declared.plane.Rect.{Rect}
use Rattle.library_model.specs.declared.element.ShapeKind.{ShapeKind}
use Rattle.library_model.specs.declared.library.Structure.{Structure}
use Rattle.flatten.specs.declared.placed.Placed.{Placed}
use Rattle.rect_cover.specs.declared.fault.CoverFault.{CoverFault}
use Rattle.rect_cover.specs.Coverings.{CoverComesTo, PlacedComesTo, placed_points}
use Rattle.rect_cover.specs.ShapeChecks.{ShapeHolds, checks_of, shape_fault}
use Rattle.rect_cover.proofs.laws.PlacedShapes.{placed_shapes_agree}

module _ (kind : ShapeKind) (points : List Point) (at : ℕ) where
  cover_or_fault : (rects : List Rect) (fault : CoverFault) → CoverComesTo kind points at (value rects) → CoverComesTo kind points at (refused fault) → ⊥
  cover_or_fault rects fault (all_hold all cover) (one_fails first) = none_fails (ShapeHolds points) (checks_of kind) all first.check first.is_first

  one_fault : (one other : CoverFault) → CoverComesTo kind points at (refused one) → CoverComesTo kind points at (refused other) → one ≡ other
  one_fault one other (one_fails p) (one_fails q) = first_refusals_agree (ShapeHolds points) (checks_of kind) (shape_fault at) one other p q

  one_cover : (one other : List Rect) → CoverComesTo kind points at (value one) → CoverComesTo kind points at (value other) → (c : Cell) → IsInUnion one c ↔ IsInUnion other c
  one_cover one other (all_hold p first) (all_hold q second) c =
      ((λ h. (second.same c).1 ((first.same c).0 h)), (λ h. (first.same c).1 ((second.same c).0 h)))

module _ (structures : List Structure) (placed : Placed) where
  -- what both come to, said of the shape of the first
  alike : {one other : Outcome (List Rect) CoverFault} (first : PlacedComesTo structures placed one) → PlacedComesTo structures placed other
      → CoverComesTo first.shape.kind (placed_points placed first.shape) first.shape.at other
  alike {other = other} first second =
      subst (λ s. CoverComesTo s.kind (placed_points placed s) s.at other) (placed_shapes_agree structures placed second.shape first.shape second.is_shape first.is_shape) second.comes

  pub covered_or_refused : (rects : List Rect) (fault : CoverFault) → PlacedComesTo structures placed (value rects) → PlacedComesTo structures placed (refused fault) → ⊥
  covered_or_refused rects fault first second = cover_or_fault _ _ _ rects fault first.comes (alike first second)

  pub refused_once : (one other : CoverFault) → PlacedComesTo structures placed (refused one) → PlacedComesTo structures placed (refused other) → one ≡ other
  refused_once one other first second = one_fault _ _ _ one other first.comes (alike first second)

  pub covered_alike : (one other : List Rect) → PlacedComesTo structures placed (value one) → PlacedComesTo structures placed (value other) → (c : Cell) → IsInUnion one c ↔ IsInUnion other c
  covered_alike one other first second = one_cover _ _ _ one other first.comes (alike first second)
