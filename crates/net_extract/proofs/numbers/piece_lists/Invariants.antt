use Rattle.std.proofs.Common.{◌≡◌, take, map}
use Rattle.net_extract.specs.inside.Numbering.{piece_of}
use Rattle.net_extract.proofs.numbers.piece_lists.Given as goal

abbrev pub invariant-loop-list : goal.invariant-loop-list
invariant-loop-list l = l.lists.items ≡ map (map (piece_of l.nets)) (take l.list-index l.islands)
