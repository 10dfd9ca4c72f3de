use Rattle.std.proofs.Common.{All, take}
use Rattle.geo_core.specs.Plane.{IsInLayout}
use Rattle.area_calls.proofs.layers.are_all_near.Given as goal

abbrev pub invariant-loop-list : goal.invariant-loop-list
invariant-loop-list l = All (All IsInLayout) (take l.list-index l.lists)
