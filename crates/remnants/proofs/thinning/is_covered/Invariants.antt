use Rattle.std.proofs.Common.{All, take}
use Rattle.remnants.specs.declared.parts.Mark.{Mark}
use Rattle.remnants.specs.inside.Marking.{IsMarked}
use Rattle.remnants.proofs.thinning.is_covered.Given as goal

abbrev pub invariant-loop-mark : goal.invariant-loop-mark
invariant-loop-mark l = All (λ (mark : Mark). IsMarked l.marks l.other mark.leader) (take l.mark-index l.own)
