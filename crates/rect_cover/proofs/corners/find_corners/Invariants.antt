use Rattle.std.proofs.Common.{◌≡◌, ◌++◌, drop}
use Rattle.rect_cover.specs.PathPieces.{corners_of}
use Rattle.rect_cover.specs.inside.PathCorners.{corners_ahead}
use Rattle.rect_cover.proofs.corners.find_corners.Given as goal

abbrev pub invariant-loop-point : goal.invariant-loop-point
invariant-loop-point l =
    l.corners.items ++ corners_ahead l.course.at l.course.heading ((drop l.point-index l.points))
    ≡ corners_of l.points
