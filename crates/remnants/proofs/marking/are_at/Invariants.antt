use Rattle.std.proofs.Common.{All, take}
use Rattle.remnants.specs.inside.Marking.{IsMarked}
use Rattle.remnants.proofs.marking.are_at.Given as goal

abbrev pub invariant-loop-terminal : goal.invariant-loop-terminal
invariant-loop-terminal l = All (λ terminal. IsMarked l.marks terminal l.leader) (take l.terminal-index l.terminals)
