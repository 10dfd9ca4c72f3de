use Rattle.std.proofs.Common.{All, take}
use Rattle.half_boxes.specs.inside.Ranks.{HasEnds, IsAnEnd}
use Rattle.half_boxes.specs.HalfBoxes.{span_along}
use Rattle.half_boxes.proofs.ranks.all_ends_along.Given as goal

abbrev pub invariant-loop-one : goal.invariant-loop-one
invariant-loop-one l = record {
  all : All (λ one. HasEnds l.ends.items (span_along l.axis one)) (take l.one-index l.boxes);
  theirs : All (IsAnEnd l.axis l.boxes) l.ends.items;
}
