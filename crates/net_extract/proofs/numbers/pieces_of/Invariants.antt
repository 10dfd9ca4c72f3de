use Rattle.std.proofs.Common.{◌≡◌, take, map}
use Rattle.net_extract.specs.inside.Numbering.{piece_of}
use Rattle.net_extract.proofs.numbers.pieces_of.Given as goal

abbrev pub invariant-loop-island : goal.invariant-loop-island
invariant-loop-island l = l.pieces.items ≡ map (piece_of l.nets) (take l.island-index l.islands)
