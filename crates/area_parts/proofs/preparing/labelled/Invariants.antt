use Rattle.std.proofs.Common.{◌≡◌, take, map}
use Rattle.area_parts.specs.AreaParts.{by_net}
use Rattle.area_parts.proofs.preparing.labelled.Given as goal

abbrev pub invariant-loop-piece : goal.invariant-loop-piece
invariant-loop-piece l = l.list.items ≡ map by_net (take l.piece-index l.pieces)
