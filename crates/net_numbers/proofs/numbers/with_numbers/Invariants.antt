use Rattle.std.proofs.Common.{take}
use Rattle.lists.specs.Words.{AllZip}
use Rattle.net_numbers.specs.FirstCells.{IsNumberedPiece}
use Rattle.net_numbers.proofs.numbers.with_numbers.Given as goal

abbrev pub invariant-loop-piece : goal.invariant-loop-piece
invariant-loop-piece l = AllZip (IsNumberedPiece l.pieces l.cells) (take l.piece-index l.pieces) l.numbered.items
