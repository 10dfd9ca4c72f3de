use Rattle.std.proofs.Common.{◌≡◌, take, map}
use Rattle.area_parts.specs.AreaParts.{by_net}
use Rattle.area_parts.proofs.preparing.pieces_by_net.Given as goal

abbrev pub invariant-loop-metal : goal.invariant-loop-metal
invariant-loop-metal l = l.lists.items ≡ map (map by_net) (take l.metal l.nets.pieces)
