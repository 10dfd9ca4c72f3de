use Rattle.std.proofs.Common.{[], ◌∷◌}
use Rattle.rect_cover.specs.ShapeChecks.{ShapeHolds, shape_fault, has_different_points, is_rectilinear}
use Rattle.rect_cover.proofs.PathLaws.{fails_behind}
use Rattle.rect_cover.proofs.path.check_points.Goals as goal

pub returns-then-not-differ-clause-refused : goal.returns-then-not-differ-clause-refused
returns-then-not-differ-clause-refused c =
    fails_behind (ShapeHolds c.args.points.now) (shape_fault c.args.at) [] has_different_points _ tt (λ differ. let told = c.differ.ensures.1 differ in cc)

pub returns-then-not-are_along_axes-clause-refused : goal.returns-then-not-are_along_axes-clause-refused
returns-then-not-are_along_axes-clause-refused c =
    fails_behind (ShapeHolds c.args.points.now) (shape_fault c.args.at) (has_different_points ∷ []) is_rectilinear _ (c.differ.ensures.0 c.if-not-differ.false, tt)
    (λ all. let told = c.are_along_axes.ensures.1 all in cc)
