use Rattle.std.proofs.Common.{ℤ, pos, of_z, w32, ◌≡◌, ◌≢◌, [], ◌∷◌, ◌++◌, map, refl, ap, subst, ◌∙◌, rules, All}
use Rattle.lists.proofs.Words.{All-nil, All-append, All-map}
use Rattle.first_refusal.specs.Answers.{gives, refuses}
use Rattle.first_refusal.proofs.AnswerLaws.{handed_on, out_of_memory}
use Rattle.outlines.specs.Outlines.{edges_of}
use Rattle.rect_cover.specs.PathPieces.{box_of, half_width_of, corners_of, neighbours, pieces_between}
use Rattle.rect_cover.specs.inside.PieceBoxes.{box_value}
use Rattle.rect_cover.specs.ShapeChecks.{ShapeHolds, HasCells, IsBoxInLayout, GoesOn, boxes_of, has_no_reversal, style_checks, point_checks, box_checks}
use Rattle.rect_cover.specs.declared.fault.CoverFault.TheVariants.{Memory, Reversal}
use Rattle.rect_cover.proofs.PathLaws.{fails_behind, checks_before, covers_nothing, path_refused, path_covered}
use Rattle.rect_cover.proofs.path.cover_path.Goals as goal

-- a width whose bits are not those of 0
is_wide : (width : ℤ) → (of_z w32 width ≡ 0 → ⊥) → width ≢ pos 0
is_wide width bits e = bits (ap (of_z w32) e)

pub returns-then-style-eq0 : goal.returns-then-style-eq0
returns-then-style-eq0 c =
    gives (covers_nothing c.args.style c.args.points.now c.args.at (search rules) c.new.result.items c.new.ensures.items)

pub returns-in_err-check_style : goal.returns-in_err-check_style
returns-in_err-check_style c =
    let points = c.args.points.now in
    handed_on Memory _ c.from_residual.result c.in_err-check_style.field-0.0 c.from_residual.ensures.1
    (refuses (path_refused c.args.style points c.args.at (is_wide _ c.if-style-eq0.false) [] (style_checks c.args.style)
    (point_checks ++ has_no_reversal ∷ box_checks c.args.style) refl _ (All-nil (ShapeHolds points))
    (c.in_err-check_style.ensures.refused points)))

pub returns-in_err-check_points : goal.returns-in_err-check_points
returns-in_err-check_points c =
    let points = c.args.points.now in
    handed_on Memory _ c.from_residual-in_err-check_points.result c.in_err-check_points.field-0.0 c.from_residual-in_err-check_points.ensures.1
    (refuses (path_refused c.args.style points c.args.at (is_wide _ c.if-style-eq0.false) (style_checks c.args.style) point_checks (has_no_reversal ∷ box_checks c.args.style) refl _
    (c.in_ok-check_style.ensures.fits points) c.in_err-check_points.ensures.refused))

pub returns-then-not-goes_on : goal.returns-then-not-goes_on
returns-then-not-goes_on c =
    let points = c.args.points.now in
    let same : c.as_slice-corners.result.now ≡ corners_of points = c.as_slice-corners.ensures.value ∙ c.in_ok-corners.ensures in
    refuses (path_refused c.args.style points c.args.at (is_wide _ c.if-style-eq0.false) (style_checks c.args.style ++ point_checks)
    (has_no_reversal ∷ []) (box_checks c.args.style) refl (Reversal c.args.at)
    (All-append (ShapeHolds points) (style_checks c.args.style) point_checks (c.in_ok-check_style.ensures.fits points) c.in_ok-check_points.ensures.fits)
    (fails_behind (ShapeHolds points) _ [] has_no_reversal [] tt (λ all. let told = c.goes_on.ensures.1 (rw same all) in cc)))

pub returns-in_err-check_boxes : goal.returns-in_err-check_boxes
returns-in_err-check_boxes c =
    let points = c.args.points.now in
    let style = c.args.style in
    let same : c.as_slice-corners.result.now ≡ corners_of points = c.as_slice-corners.ensures.value ∙ c.in_ok-corners.ensures in
    let on : All GoesOn (neighbours (edges_of (corners_of points))) = subst (λ corners. All GoesOn (neighbours (edges_of corners))) same (c.goes_on.ensures.0 c.if-not-goes_on.false) in
    let boxes : map box_value c.as_slice-boxes.result.now ≡ boxes_of style points =
    ap (map box_value) c.as_slice-boxes.ensures.value ∙ c.in_ok-boxes.ensures ∙ ap (λ corners. map (box_of (half_width_of style)) (pieces_between style corners)) same in
    handed_on Memory _ c.from_residual-in_err-check_boxes.result c.in_err-check_boxes.field-0.0 c.from_residual-in_err-check_boxes.ensures.1
    (refuses (path_refused style points c.args.at (is_wide _ c.if-style-eq0.false) (style_checks style ++ (point_checks ++ has_no_reversal ∷ [])) (box_checks style) [] refl _
    (checks_before style points c.args.at (c.in_ok-check_style.ensures.fits points) c.in_ok-check_points.ensures.fits on) (c.in_err-check_boxes.ensures.refused style points boxes)))

pub returns : goal.returns
returns c =
    let points = c.args.points.now in
    let style = c.args.style in
    let same : c.as_slice-corners.result.now ≡ corners_of points = c.as_slice-corners.ensures.value ∙ c.in_ok-corners.ensures in
    let on : All GoesOn (neighbours (edges_of (corners_of points))) = subst (λ corners. All GoesOn (neighbours (edges_of corners))) same (c.goes_on.ensures.0 c.if-not-goes_on.false) in
    let boxes : map box_value c.as_slice-boxes.result.now ≡ boxes_of style points =
    ap (map box_value) c.as_slice-boxes.ensures.value ∙ c.in_ok-boxes.ensures ∙ ap (λ corners. map (box_of (half_width_of style)) (pieces_between style corners)) same in
    let some : All HasCells (boxes_of style points) = subst (All HasCells) boxes (All-map HasCells box_value c.as_slice-boxes.result.now c.in_ok-check_boxes.ensures.some) in
    let within : All IsBoxInLayout (boxes_of style points) = subst (All IsBoxInLayout) boxes (All-map IsBoxInLayout box_value c.as_slice-boxes.result.now c.in_ok-check_boxes.ensures.within) in
    gives (path_covered style points c.args.at (is_wide _ c.if-style-eq0.false) (checks_before style points c.args.at (c.in_ok-check_style.ensures.fits points) c.in_ok-check_points.ensures.fits on)
    c.in_ok-find_rects.field-0.items (c.in_ok-find_rects.ensures ∙ boxes) some within)

pub returns-in_err-corners : goal.returns-in_err-corners
returns-in_err-corners c = out_of_memory Memory _ c.from_residual-in_err-corners.result c.from_residual-in_err-corners.ensures.1

pub returns-in_err-boxes : goal.returns-in_err-boxes
returns-in_err-boxes c = out_of_memory Memory _ c.from_residual-in_err-boxes.result c.from_residual-in_err-boxes.ensures.1

pub returns-in_err-find_rects : goal.returns-in_err-find_rects
returns-in_err-find_rects c = out_of_memory Memory _ c.from_residual-in_err-find_rects.result c.from_residual-in_err-find_rects.ensures.1
