use Rattle.rect_cover.proofs.DifferLaws.{AreFirst}
use Rattle.rect_cover.proofs.path.differ.Given as goal

abbrev pub invariant-loop-point : goal.invariant-loop-point
invariant-loop-point l = AreFirst l.points l.point-index
