use Rattle.std.proofs.Common.{take, map}
use Rattle.lists.proofs.Words.{AllZip}
use Rattle.net_extract.specs.AnchoredIslands.{IsSpotOfTerminal}
use Rattle.net_extract.proofs.spots.spots_of.Given as goal

abbrev pub invariant-loop-standing : goal.invariant-loop-standing
invariant-loop-standing l = AllZip (IsSpotOfTerminal l.groups) (map (λ standing. standing.terminal) (take l.standing-index l.terminals)) l.spots.items
