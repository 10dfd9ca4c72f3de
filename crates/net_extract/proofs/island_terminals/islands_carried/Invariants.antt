use Rattle.std.proofs.Common.{◌≡◌, take, map}
use Rattle.net_extract.proofs.island_terminals.islands_carried.Given as goal

abbrev pub invariant-loop-standing : goal.invariant-loop-standing
invariant-loop-standing l = l.numbers.items ≡ map (λ standing. standing.island) (take l.standing-index l.terminals)
