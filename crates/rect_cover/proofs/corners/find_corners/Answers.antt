use Rattle.std.proofs.Common.{◌+◌, ◌≡◌, ◌++◌, ◌∷◌, [], drop, get_or, None, pos, sym, ap, ◌∙◌, add-one}
use Rattle.lists.proofs.Words.{drop-cons, drop_all}
use Rattle.geo_core.specs.declared.plane.Point.{Point}
use Rattle.rect_cover.specs.inside.PathCorners.{corners_ahead}
use Rattle.rect_cover.proofs.CornerLaws.{corners_begin}
use Rattle.rect_cover.proofs.corners.find_corners.Goals as goal

pub loop-point-init : goal.loop-point-init
loop-point-init c =
    let points = c.args.points.now in
    let none : Point = record { x = pos 0; y = pos 0 } in
    let first = get_or points 0 none in
    let one : c.push.new.self.items ≡ first ∷ [] = c.in_ok-push.ensures.items ∙ ap (λ xs. xs ++ first ∷ []) c.new-corners.ensures.items in
    ap (λ xs. xs ++ corners_ahead first None ((drop 0 points))) one ∙ corners_begin points none c.requires

pub loop-point-preserved : goal.loop-point-preserved
loop-point-preserved c =
    let points = c.args.points.now in
    let i = c.loop-point.point-index in
    let none : Point = record { x = pos 0; y = pos 0 } in
    let parted : drop i points ≡ get_or points i none ∷ drop (i + 1) points = drop-cons points i none c.loop-point-test.true ∙ ap (λ n. get_or points i none ∷ drop n points) (sym (add-one i)) in
    c.in_ok-course.ensures ((drop (i + 1) points))
    ∙ ap (λ ahead. c.loop-point.corners.items ++ corners_ahead (c.loop-point.course.at) c.loop-point.course.heading ahead) (sym parted)
    ∙ c.loop-point.invariant

pub returns : goal.returns
returns c =
    let items = c.loop-point.corners.items in
    let at = c.loop-point.course.at in
    c.in_ok-push-2.ensures.items
    ∙ ap (λ ahead. items ++ corners_ahead at c.loop-point.course.heading ahead) (sym (drop_all c.loop-point.point-index c.args.points.now c.loop-point-test.false))
    ∙ c.loop-point.invariant
