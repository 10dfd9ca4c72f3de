use Rattle.union_area.proofs.SpanLaws.{SameSoFar}
use Rattle.union_area.proofs.spans.joined_neighbours.Given as goal

abbrev pub invariant-loop-rect : goal.invariant-loop-rect
invariant-loop-rect l = SameSoFar l.rects l.rect-index l.joined.items
