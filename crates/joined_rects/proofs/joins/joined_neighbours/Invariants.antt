use Rattle.std.proofs.Common.{drop}
use Rattle.joined_rects.proofs.JoinLaws.{IsJoinedTo}
use Rattle.joined_rects.proofs.joins.joined_neighbours.Given as goal

abbrev pub invariant-loop-rect : goal.invariant-loop-rect
invariant-loop-rect l = IsJoinedTo l.rects l.joined.items l.last (drop l.rect-index l.others)
