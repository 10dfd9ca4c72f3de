use Rattle.std.proofs.Common.{◌≡◌, take}
use Rattle.lists.proofs.Words.{flat_map}
use Rattle.depth_sweep.specs.inside.SweepPlaces.{moved_sides}
use Rattle.depth_sweep.proofs.places.sides_in.Given as goal

abbrev pub invariant-loop-rect : goal.invariant-loop-rect
invariant-loop-rect l = l.sides.items ≡ flat_map (moved_sides l.window) (take l.rect-index l.rects)
