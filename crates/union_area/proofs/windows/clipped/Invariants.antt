use Rattle.union_area.proofs.laws.ClipLaws.{ClippedSoFar}
use Rattle.union_area.proofs.windows.clipped.Given as goal

abbrev pub invariant-loop-rect : goal.invariant-loop-rect
invariant-loop-rect l = ClippedSoFar l.rects l.window l.rect-index l.inside.items
