use Rattle.std.proofs.Common.{◌≡◌, map, take}
use Rattle.remnants.specs.declared.proposing.StandIn.{StandIn}
use Rattle.remnants.proofs.thinning.all_going.Given as goal

abbrev pub invariant-loop-pair : goal.invariant-loop-pair
invariant-loop-pair l = l.going.items ≡ map (λ (pair : StandIn). pair.goes) (take l.pair-index l.proposed)
