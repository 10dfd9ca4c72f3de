-- a path of two points is one piece
use Rattle.std.proofs.Common.{◌≡◌, ◌≢◌, inl, inr, refl, sym, subst, [], ◌∷◌, true, ℤ, pos, ◌↔◌, Contains}
use Rattle.geo_core.specs.declared.plane.Point.{Point}
use Rattle.geo_core.specs.declared.plane.Cell.{Cell}
use Rattle.rect_cover.specs.declared.style.PathStyle.{PathStyle}
use Rattle.library_model.specs.declared.element.ShapeKind.TheVariants.{Path}
use Rattle.rect_cover.specs.PathPieces.{Piece, style_of, is_long, half_width_of, reach_before, reach_behind, pieces_of, box_of}
use Rattle.rect_cover.proofs.CornerLaws.{not_long}
use Rattle.rect_cover.specs.Covers.{Covers, IsInBox, IsInPiece}
use Rattle.lists.proofs.Containing.{Contains-head, Contains-one}
use Rattle.lists.proofs.Words.{cases_Bool}

module _ (p q : Point) (differ : p ≢ q) where
  long : is_long (p, q) ≡ true
  long = elim (cases_Bool (is_long (p, q))) [ inl e ↦ e | inr e ↦ absurd (differ (not_long p q e)) ]

  module _ (style : PathStyle) where
    abbrev only : Piece
    only = ((p, reach_before style), (q, reach_behind style))

    one_piece : pieces_of style (p ∷ q ∷ []) ≡ only ∷ []
    one_piece = rw long refl

    in_only : (c : Cell) → IsInPiece style (p ∷ q ∷ []) c ↔ IsInBox (box_of (half_width_of style) only) c
    in_only c = (
      λ h. subst (λ piece. IsInBox (box_of (half_width_of style) piece) c) (sym (Contains-one only h.piece (subst (λ l. Contains l h.piece) one_piece h.among))) h.has,
      λ has. record { piece = only; among = subst (λ l. Contains l only) (sym one_piece) (Contains-head only []); has = has },
    )

pub two_point_path : (p q : Point) (pathtype width begin end : ℤ) → p ≢ q → (c : Cell) → let style = style_of pathtype width begin end in
    Covers (Path pathtype width begin end) (p ∷ q ∷ []) c ↔ ((width ≢ pos 0) × IsInBox (box_of (half_width_of style) ((p, reach_before style), (q, reach_behind style))) c)
two_point_path p q pathtype width begin end differ c =
    let only = in_only p q differ (style_of pathtype width begin end) c in
    ((λ h. (h.0, only.0 h.1)), λ h. (h.0, only.1 h.1))
