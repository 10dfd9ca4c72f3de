use Rattle.std.proofs.Common.{◌-◌, ◌↔◌, drop, All}
use Rattle.rect_cover.specs.ShapeChecks.{GoesOn}
use Rattle.rect_cover.proofs.ReversalLaws.{pairs_of}
use Rattle.rect_cover.proofs.corners.goes_on.Given as goal

abbrev pub invariant-loop-i : goal.invariant-loop-i
invariant-loop-i l = All GoesOn (pairs_of (drop (l.i - 2) l.corners)) ↔ All GoesOn (pairs_of l.corners)
