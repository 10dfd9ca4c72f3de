use Rattle.std.proofs.Common.{◌≡◌, ◌++◌, drop, map, take}
use Rattle.net_pairs.specs.inside.Dense.{weighed_in}
use Rattle.net_pairs.proofs.dense.weigh.Given as goal

abbrev pub invariant-loop-change : goal.invariant-loop-change
invariant-loop-change l = l.change-items ≡ map (weighed_in l.window) (take l.change-index l.fn.changes.items) ++ drop l.change-index l.fn.changes.items
