use Rattle.std.proofs.Common.{◌≡◌, take, map}
use Rattle.rect_cover.specs.inside.PieceBoxes.{box_value, rect_value}
use Rattle.rect_cover.proofs.pieces.find_rects.Given as goal

abbrev pub invariant-loop-piece : goal.invariant-loop-piece
invariant-loop-piece l = map rect_value l.rects.items ≡ map box_value (take l.piece-index l.boxes)
