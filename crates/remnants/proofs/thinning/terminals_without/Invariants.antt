use Rattle.std.proofs.Common.{ℕ, take}
use Rattle.remnants.proofs.SpreadLaws.{StayWithout}
use Rattle.remnants.proofs.thinning.terminals_without.Given as goal

abbrev pub invariant-loop-terminal : goal.invariant-loop-terminal
invariant-loop-terminal l = StayWithout (λ (terminal : ℕ). terminal) l.gone (take l.terminal-index l.terminals) l.stay.items
