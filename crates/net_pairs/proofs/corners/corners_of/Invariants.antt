use Rattle.std.proofs.Common.{take}
use Rattle.net_pairs.specs.inside.ChangeCorners.{AreCornersOf}
use Rattle.net_pairs.proofs.corners.corners_of.Given as goal

abbrev pub invariant-loop-one : goal.invariant-loop-one
invariant-loop-one l = AreCornersOf l.window (take l.one-index l.rects) l.corners.items
