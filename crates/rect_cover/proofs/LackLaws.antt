-- a well placed shape has a cover or a fault
use Rattle.std.proofs.Common.{◌≡◌, ◌≢◌, ◌⊎◌, inl, inr, refl, ap, ◌∙◌, List, [], ◌∷◌, map, arith, subst, ℤ, pos, neg_ℤ, ◌≤ℤ◌, ◌<ℤ◌, All}
use Rattle.lists.proofs.Words.{ints, All-head, All-tail}
use Rattle.first_refusal.specs.Laws.{CannotLack}
use Rattle.first_refusal.proofs.CheckLaws.{checks_cannot_lack}
use Rattle.geo_core.specs.Plane.{IsInRange, IsClosed, IsInterval}
use Rattle.geo_core.specs.declared.bounds.TheConstants.{FARTHEST, FARTHEST_GROWN}
use Rattle.geo_core.specs.declared.plane.Point.{Point}
use Rattle.geo_core.specs.declared.plane.Rect.{Rect}
use Rattle.library_model.specs.Points.{HasItsPoints}
use Rattle.library_model.specs.declared.element.ShapeKind.{ShapeKind}
use Rattle.library_model.specs.declared.element.ShapeKind.TheVariants.{Boundary, BoxElement, Path}
use Rattle.library_model.specs.declared.library.Structure.{Structure}
use Rattle.flatten.specs.declared.placed.Placed.{Placed}
use Rattle.outlines.specs.Fillings.{IsCover}
use Rattle.outlines.specs.Outlines.{IsInside}
use Rattle.lists.proofs.Comparing.{same_or_not}
use Rattle.outlines.proofs.laws.CircuitLaws.{map-circuit}
use Rattle.outlines.proofs.laws.GridLaws.{cells_cover}
use Rattle.rect_cover.specs.PathPieces.{Box, style_of}
use Rattle.rect_cover.specs.Covers.{Covers}
use Rattle.rect_cover.specs.Coverings.{IsWellPlaced, PlacedComesTo, placed_at, placed_points}
use Rattle.rect_cover.specs.inside.PieceBoxes.{rect_value}
use Rattle.rect_cover.specs.ShapeChecks.{HasCells, IsBoxInLayout, ShapeHolds, checks_of, shape_fault, boxes_of, is_within, has_long_pieces}
use Rattle.rect_cover.specs.declared.style.PathStyle.{PathStyle}
use Rattle.rect_cover.proofs.PathLaws.{checks_of_wide, path_of, thin_cover, wide_cover}

side_of : (low high : ℤ) → low <ℤ high → neg_ℤ FARTHEST ≤ℤ low → high ≤ℤ FARTHEST → IsInterval FARTHEST_GROWN low high
side_of low high some least most = record { some = some; least = omega (arith, ints); most = omega (arith, ints) }

rect_of : (box : Box) → HasCells box → IsBoxInLayout box → (rect : Rect) × (rect_value rect ≡ box)
rect_of box cells near = (
  record {
    x0 = box.x0;
    y0 = box.y0;
    x1 = box.x1;
    y1 = box.y1;
    across = side_of box.x0 box.x1 cells.across near.left near.right;
    up = side_of box.y0 box.y1 cells.up near.bottom near.top;
  },
  refl,
)

-- boxes as rectangles
rects_of : (boxes : List Box) → All HasCells boxes → All IsBoxInLayout boxes → (rects : List Rect) × (map rect_value rects ≡ boxes)
rects_of [] cells near = ([], refl)
rects_of (box ∷ boxes) cells near =
    let first = rect_of box (All-head HasCells box boxes cells) (All-head IsBoxInLayout box boxes near) in
    let others = rects_of boxes (All-tail HasCells box boxes cells) (All-tail IsBoxInLayout box boxes near) in
    (first.0 ∷ others.0, cc (first.1, others.1))

abbrev HasCover : ShapeKind → List Point → Type 0
HasCover kind points = (rects : List Rect) × IsCover (Covers kind points) rects

module _ (style : PathStyle) (points : List Point) where
  path_has : (style.width ≡ pos 0) ⊎ (style.width ≢ pos 0) → All (ShapeHolds points) (checks_of (path_of style)) → HasCover (path_of style) points
  path_has (inl thin) all = ([], thin_cover style points thin)
  path_has (inr wide) all =
      let all_wide = subst (All (ShapeHolds points)) (checks_of_wide style points wide) all in
      let cells : All HasCells (boxes_of style points) = all_wide 6 (has_long_pieces style) (omega arith) in
      let near : All IsBoxInLayout (boxes_of style points) = all_wide 7 (is_within style) (omega arith) in
      let rects = rects_of (boxes_of style points) cells near in
      (rects.0, wide_cover style points wide rects.0 rects.1 cells near)

-- a closed outline is a circuit
outline_has : (f : Point → Point) (points : List Point) → IsClosed points → All IsInRange (map f points) → (rects : List Rect) × IsCover (IsInside (map f points)) rects
outline_has f points closed range =
    let corners = closed.first ∷ closed.between in
    cells_cover (map f points) range (map f corners) (ap (map f) closed.parts ∙ map-circuit f corners)

some_cover : (kind : ShapeKind) (f : Point → Point) (points : List Point) → HasItsPoints kind points → All IsInRange (map f points) → All (ShapeHolds (map f points)) (checks_of kind)
    → HasCover kind (map f points)
some_cover Boundary f points outline range all = outline_has f points outline.closed range
some_cover BoxElement f points outline range all = outline_has f points outline.closed range
some_cover (Path pathtype width begin end) f points some range all = path_has (style_of pathtype width begin end) (map f points) (same_or_not width (pos 0)) all

pub covers_cannot_lack : (structures : List Structure) (placed : Placed) → IsWellPlaced structures placed → CannotLack (PlacedComesTo structures placed)
covers_cannot_lack structures placed given none =
    let shape = given.shape in
    let points = placed_points placed shape in
    checks_cannot_lack (ShapeHolds points) (checks_of shape.kind) (shape_fault shape.at) (IsCover (Covers shape.kind points))
    (λ all no_cover. let cover = some_cover shape.kind (placed_at placed) shape.points given.has_points given.in_range all in no_cover cover.0 cover.1)
    (λ outcome comes. none outcome (record { shape = shape; is_shape = given.is_shape; comes = comes }))
