use Rattle.std.proofs.Common.{take}
use Rattle.net_pairs.specs.inside.Dense.{AreLowered}
use Rattle.net_pairs.proofs.dense.lowered.Given as goal

abbrev pub invariant-loop-change : goal.invariant-loop-change
invariant-loop-change l = AreLowered l.window (take l.change-index l.changes) l.lowered.items
