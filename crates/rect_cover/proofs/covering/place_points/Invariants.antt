use Rattle.std.proofs.Common.{◌≡◌, map, take}
use Rattle.rect_cover.specs.Coverings.{placed_at}
use Rattle.rect_cover.proofs.covering.place_points.Given as goal

abbrev pub invariant-loop-point : goal.invariant-loop-point
invariant-loop-point l = l.moved.items ≡ map (placed_at l.placed) (take l.point-index l.points)
