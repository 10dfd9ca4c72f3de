use Rattle.std.proofs.Common.{◌≡◌, ◌++◌, drop, map}
use Rattle.rect_cover.specs.PathPieces.{box_of, half_width_of, reach_behind, pieces_between}
use Rattle.rect_cover.specs.inside.PieceBoxes.{box_value, knot_of}
use Rattle.rect_cover.proofs.PieceLaws.{pieces_ahead}
use Rattle.rect_cover.proofs.pieces.find_boxes.Given as goal

abbrev pub invariant-loop-i : goal.invariant-loop-i
invariant-loop-i l =
    map box_value l.boxes.items ++ map (box_of (half_width_of l.style)) (pieces_ahead (half_width_of l.style) (reach_behind l.style) (knot_of l.from) ((drop l.i l.corners)))
    ≡ map (box_of (half_width_of l.style)) (pieces_between l.style l.corners)
