use Rattle.std.proofs.Common.{[], ◌∷◌}
use Rattle.lists.proofs.Words.{All-from_recursion}
use Rattle.first_refusal.specs.Answers.{gives, refuses}
use Rattle.first_refusal.specs.Checks.{all_hold, one_fails}
use Rattle.rect_cover.specs.ShapeChecks.{ShapeHolds, is_rectilinear, shape_fault}
use Rattle.rect_cover.proofs.PathLaws.{fails_behind}
use Rattle.rect_cover.proofs.outline.cover_closed.Goals as goal

pub returns-then-not-are_along_axes : goal.returns-then-not-are_along_axes
returns-then-not-are_along_axes c =
    refuses (one_fails (fails_behind (ShapeHolds c.args.points.now) (shape_fault c.args.at) [] is_rectilinear [] tt (λ along. let told = c.are_along_axes.ensures.1 along in cc)))

pub returns : goal.returns
returns c =
    let along = c.are_along_axes.ensures.0 c.if-not-are_along_axes.false in
    gives (all_hold (All-from_recursion (ShapeHolds c.args.points.now) (is_rectilinear ∷ []) (along, tt)) c.in_ok-cover_outline.ensures)
