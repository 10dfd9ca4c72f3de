use Rattle.std.proofs.Common.{◌≡◌, ◌++◌, take}
use Rattle.lists.proofs.Words.{flat_map}
use Rattle.gds_write.specs.Bodies.{point_bytes}
use Rattle.gds_write.proofs.bodies.write_points.Given as goal

-- the points up to this one are written
abbrev pub invariant-loop-point : goal.invariant-loop-point
invariant-loop-point l = l.out.items ≡ l.initial.out.items ++ flat_map point_bytes (take l.point-index l.points)
