use Rattle.std.proofs.Common.{take}
use Rattle.net_pairs.specs.inside.Beside.{IsAlone}
use Rattle.net_pairs.proofs.beside.is_alone.Given as goal

abbrev pub invariant-loop-other : goal.invariant-loop-other
invariant-loop-other l = IsAlone (take l.other-index l.zones) l.zone
