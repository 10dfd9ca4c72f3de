-- cells that are deep enough, and those that lie in one or in two rectangles of a list
use Rattle.std.proofs.Common.{List, ◌↔◌}
use Rattle.geo_core.specs.Plane.{IsInUnion}
use Rattle.geo_core.specs.declared.plane.Cell.{Cell}
use Rattle.geo_core.specs.declared.plane.Rect.{Rect}
use Rattle.skyline_runs.specs.Runs.{IsInTwo}
use Rattle.skyline_runs.proofs.laws.DepthLaws.{union_from_depth, two_from_depth, depth_from_union, depth_of_two}
use Rattle.depth_sweep.specs.inside.DeepCells.{IsDeep}

-- a cell lies in a rectangle of the list exactly where its depth is at least 1, and in two where it is at least 2
module _ (c : Cell) where
  pub once_is : (xs : List Rect) → IsDeep xs 1 c ↔ IsInUnion xs c
  once_is xs = (λ d. union_from_depth c xs d.deep, λ u. record { deep = depth_from_union c xs u.number u.rect u.at u.has })

  pub twice_is : (xs : List Rect) → IsDeep xs 2 c ↔ IsInTwo xs c
  twice_is xs = (λ d. two_from_depth c xs d.deep, λ t. record { deep = depth_of_two c xs t })
