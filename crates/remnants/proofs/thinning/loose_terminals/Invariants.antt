use Rattle.std.proofs.Common.{take}
use Rattle.remnants.proofs.SpreadLaws.{HasLooseTerminals}
use Rattle.remnants.proofs.thinning.loose_terminals.Given as goal

abbrev pub invariant-loop-one : goal.invariant-loop-one
invariant-loop-one l = HasLooseTerminals (take l.one-index l.loose) l.found.items
