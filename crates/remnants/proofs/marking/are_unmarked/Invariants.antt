use Rattle.std.proofs.Common.{All, take}
use Rattle.remnants.proofs.MeetingLaws.{MeetsAll}
use Rattle.remnants.proofs.marking.are_unmarked.Given as goal

abbrev pub invariant-loop-one : goal.invariant-loop-one
invariant-loop-one l = All (MeetsAll l.marks l.terminals) (take l.one-index l.terminals)
