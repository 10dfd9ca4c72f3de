-- what the checks of a path and its rectangles come to
use Rattle.std.proofs.Common.{ℕ, ◌≡◌, ◌≢◌, ◌==◌, false, if◌then◌else◌, ℤ, pos, negsuc, nat_abs, List, [], ◌∷◌, ◌++◌, map, refl, sym, ap, subst, ◌∙◌, arith, All, Contains}
use Rattle.lists.proofs.Words.{nat_tests, All-nil, All-append, All-contains, All-from_recursion}
use Rattle.std.specs.List.{AllByRecursion}
use Rattle.first_refusal.specs.Checks.{IsRefusalOfFirst, all_hold, one_fails}
use Rattle.first_refusal.specs.Outcomes.{value, refused}
use Rattle.geo_core.specs.Plane.{IsInLayout, IsInUnion}
use Rattle.geo_core.specs.declared.plane.Point.{Point}
use Rattle.geo_core.specs.declared.plane.Cell.{Cell}
use Rattle.geo_core.specs.declared.plane.Rect.{Rect}
use Rattle.library_model.specs.declared.element.ShapeKind.{ShapeKind}
use Rattle.library_model.specs.declared.element.ShapeKind.TheVariants.{Path}
use Rattle.flatten.proofs.laws.Refusals.{refused_within}
use Rattle.outlines.specs.Fillings.{IsCover}
use Rattle.outlines.specs.Outlines.{edges_of}
use Rattle.rect_cover.specs.PathPieces.{box_of, half_width_of, pieces_of, corners_of, neighbours}
use Rattle.rect_cover.specs.Covers.{Covers, IsInBox}
use Rattle.rect_cover.specs.Coverings.{CoverComesTo}
use Rattle.rect_cover.specs.inside.PieceBoxes.{rect_value}
use Rattle.rect_cover.specs.ShapeChecks.{ShapeCheck, ShapeHolds, HasCells, IsBoxInLayout, GoesOn, has_no_reversal, checks_of}
use Rattle.rect_cover.specs.ShapeChecks.{path_checks, style_checks, point_checks, box_checks, boxes_of, shape_fault}
use Rattle.rect_cover.specs.declared.fault.CoverFault.{CoverFault}
use Rattle.rect_cover.specs.declared.style.PathStyle.{PathStyle}
use Rattle.lists.proofs.Containing.{Contains-none, Contains-slice_get, all_of_each, number_of}
use Rattle.lists.proofs.Mapping.{Contains-map, Contains-map_from}

-- the kind of a path of this style
abbrev pub path_of : PathStyle → ShapeKind
path_of style = Path style.pathtype style.width style.begin style.end

-- a check that fails behind checks that hold is the first that fails
pub fails_behind : {N R : Type 0} (Holds : N → Type 0) (refusal_of : N → R) (before : List N) (check : N) (behind : List N) → AllByRecursion Holds before → (Holds check → ⊥)
    → IsRefusalOfFirst Holds (before ++ check ∷ behind) refusal_of (refusal_of check)
fails_behind Holds refusal_of before check behind all fails = record {
  check = check;
  is_first = record { before = before; after = behind; parts = refl; all_before = All-from_recursion Holds before all; fails = fails };
  is_its_refusal = refl;
}

has_amount : (w : ℤ) → w ≢ pos 0 → (nat_abs w == 0) ≡ false
has_amount (pos n) wide = let some : n ≢ 0 = λ e. wide (ap pos e) in grind (arith, nat_tests)
has_amount (negsuc n) wide = grind (arith, nat_tests)

module _ (style : PathStyle) (points : List Point) where
  pub checks_of_thin : style.width ≡ pos 0 → checks_of (path_of style) ≡ []
  checks_of_thin thin = ap (λ w. if nat_abs w == 0 then [] else path_checks style) thin

  pub checks_of_wide : style.width ≢ pos 0 → checks_of (path_of style) ≡ path_checks style
  checks_of_wide wide = ap (λ b. if b then [] else path_checks style) (has_amount style.width wide)

  -- a path of width 0 covers nothing
  pub thin_cover : style.width ≡ pos 0 → IsCover (Covers (path_of style) points) []
  thin_cover thin = record { same = λ c. (λ some. absurd (Contains-none (Contains-slice_get [] some.number some.rect some.at)), λ covers. absurd (covers.0 thin)); within = All-nil IsInLayout }

  -- the rectangles of the pieces are the cover of a path that has a width
  module _ (wide : style.width ≢ pos 0) (rects : List Rect) (same : map rect_value rects ≡ boxes_of style points) (some : All HasCells (boxes_of style points))
      (within : All IsBoxInLayout (boxes_of style points)) where
    box_there : (rect : Rect) → Contains rects rect → Contains (boxes_of style points) (rect_value rect)
    box_there rect among = subst (λ boxes. Contains boxes (rect_value rect)) same (Contains-map rect_value rects rect among)

    forth : (c : Cell) → IsInUnion rects c → Covers (path_of style) points c
    forth c some =
        let from = Contains-map_from (box_of (half_width_of style)) (pieces_of style points) (rect_value some.rect) (box_there some.rect (Contains-slice_get rects some.number some.rect some.at)) in
        let here : IsInBox (rect_value some.rect) c = record { across = some.has.across; up = some.has.up } in
        (wide, record { piece = from.0; among = from.1; has = subst (λ box. IsInBox box c) (sym from.2) here })

    back : (c : Cell) → Covers (path_of style) points c → IsInUnion rects c
    back c covers =
        let box = box_of (half_width_of style) covers.1.piece in
        let among : Contains (map rect_value rects) box = subst (λ boxes. Contains boxes box) (sym same)
        (Contains-map (box_of (half_width_of style)) (pieces_of style points) covers.1.piece covers.1.among) in
        let from = Contains-map_from rect_value rects box among in
        let here : IsInBox (rect_value from.0) c = subst (λ box. IsInBox box c) (sym from.2) covers.1.has in
        let place = number_of rects from.0 from.1 in
        record { number = place.0; rect = from.0; at = place.1; has = record { across = here.across; up = here.up } }

    in_layout : (rect : Rect) → Contains rects rect → IsInLayout rect
    in_layout rect among =
        let cells : HasCells (rect_value rect) = All-contains HasCells (boxes_of style points) (rect_value rect) some (box_there rect among) in
        let near : IsBoxInLayout (rect_value rect) = All-contains IsBoxInLayout (boxes_of style points) (rect_value rect) within (box_there rect among) in
        record {
          across = record { some = cells.across; least = near.left; most = near.right };
          up = record { some = cells.up; least = near.bottom; most = near.top };
        }

    pub wide_cover : IsCover (Covers (path_of style) points) rects
    wide_cover = record { same = λ c. (forth c, back c); within = all_of_each IsInLayout rects in_layout }

  module _ (at : ℕ) where
    pub covers_nothing : style.width ≡ pos 0 → (rects : List Rect) → rects ≡ [] → CoverComesTo (path_of style) points at (value rects)
    covers_nothing thin rects e =
        subst (λ (rects : List Rect). CoverComesTo (path_of style) points at (value rects)) (sym e)
        (all_hold (subst (All (ShapeHolds points)) (sym (checks_of_thin thin)) (All-nil (ShapeHolds points))) (thin_cover thin))

    -- a check that fails behind checks that hold is the first that fails
    pub path_refused : style.width ≢ pos 0 → (before here behind : List ShapeCheck) → before ++ (here ++ behind) ≡ path_checks style → (fault : CoverFault) → All (ShapeHolds points) before →
        IsRefusalOfFirst (ShapeHolds points) here (shape_fault at) fault → CoverComesTo (path_of style) points at (refused fault)
    path_refused wide before here behind parts fault all first =
        one_fails (subst (λ checks. IsRefusalOfFirst (ShapeHolds points) checks (shape_fault at) fault) (parts ∙ sym (checks_of_wide wide))
        (refused_within (ShapeHolds points) (shape_fault at) before here behind fault all first))

    -- the checks before those of the rectangles
    pub checks_before : All (ShapeHolds points) (style_checks style) → All (ShapeHolds points) point_checks → All GoesOn (neighbours (edges_of (corners_of points))) →
        All (ShapeHolds points) (style_checks style ++ (point_checks ++ has_no_reversal ∷ []))
    checks_before styles these on =
        let Holds = ShapeHolds points in
        All-append Holds (style_checks style) (point_checks ++ has_no_reversal ∷ []) styles
        (All-append Holds point_checks (has_no_reversal ∷ []) these (All-from_recursion Holds (has_no_reversal ∷ []) (on, tt)))

    -- where all hold, the rectangles of the pieces are its cover
    pub path_covered : style.width ≢ pos 0 → All (ShapeHolds points) (style_checks style ++ (point_checks ++ has_no_reversal ∷ [])) → (rects : List Rect) → map rect_value rects ≡ boxes_of style points
        → All HasCells (boxes_of style points) → All IsBoxInLayout (boxes_of style points) → CoverComesTo (path_of style) points at (value rects)
    path_covered wide before rects same some within =
        let Holds = ShapeHolds points in
        let all : All Holds (path_checks style) =
        All-append Holds (style_checks style ++ (point_checks ++ has_no_reversal ∷ [])) (box_checks style) before (All-from_recursion Holds (box_checks style) (some, (within, tt))) in
        all_hold (subst (All Holds) (sym (checks_of_wide wide)) all) (wide_cover wide rects same some within)
