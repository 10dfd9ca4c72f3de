use Rattle.std.proofs.Common.{take, AllPairs}
use Rattle.remnants.specs.declared.parts.Mark.{Mark}
use Rattle.remnants.specs.inside.Marking.{IsBefore}
use Rattle.remnants.proofs.SpreadLaws.{StayWithout}
use Rattle.remnants.proofs.marks.Marks.without.Given as goal

abbrev pub invariant-loop-mark : goal.invariant-loop-mark
invariant-loop-mark l = StayWithout (λ (mark : Mark). mark.terminal) l.gone (take l.mark-index l.mark-items) l.stay.items × AllPairs IsBefore l.stay.items
