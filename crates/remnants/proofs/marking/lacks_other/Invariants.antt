use Rattle.std.proofs.Common.{◌≢◌, All, take}
use Rattle.remnants.specs.inside.Marking.{ShareLeader}
use Rattle.remnants.proofs.marking.lacks_other.Given as goal

abbrev pub invariant-loop-other : goal.invariant-loop-other
invariant-loop-other l = All (λ other. l.one ≢ other → ShareLeader l.marks l.one other) (take l.other-index l.terminals)
