use Rattle.std.proofs.Common.{[], ◌∷◌, ◌++◌, Some, sym, ap, ◌∙◌, append_assoc}
use Rattle.rect_cover.specs.inside.PathCorners.{corners_ahead}
use Rattle.rect_cover.proofs.CornerLaws.{ahead_again, ahead_turned, ahead_straight}
use Rattle.rect_cover.proofs.corners.step.Goals as goal

pub returns-then-eq : goal.returns-then-eq
returns-then-eq c rest = ap (λ ahead. c.args.corners.now.items ++ ahead) (sym (ahead_again c.args.course.at c.args.to c.args.course.heading rest (c.if-eq.ensures)))

pub returns-in_ok-push : goal.returns-in_ok-push
returns-in_ok-push c rest =
    let ahead = corners_ahead c.args.to (Some c.between-heading.result) rest in
    let turned = ahead_turned c.args.course.at c.args.to c.args.course.heading rest c.between-heading.result c.if-eq.ensures c.between-heading.ensures
    (sym c.is_at_corner.ensures ∙ c.if-is_at_corner.true) in
    ap (λ corners. corners ++ ahead) c.in_ok-push.ensures.items ∙ append_assoc c.args.corners.now.items (c.args.course.at ∷ []) ahead
    ∙ ap (λ ahead. c.args.corners.now.items ++ ahead) (sym turned)

pub returns-else-is_at_corner : goal.returns-else-is_at_corner
returns-else-is_at_corner c rest =
    ap (λ ahead. c.args.corners.now.items ++ ahead) (sym (ahead_straight c.args.course.at c.args.to c.args.course.heading rest c.between-heading.result c.if-eq.ensures c.between-heading.ensures
    (sym c.is_at_corner.ensures ∙ c.if-is_at_corner.false)))
