use Rattle.std.proofs.Common.{◌≡◌, [], All, take}
use Rattle.command_line.specs.inside.Command.{values_found}
use Rattle.command_line.proofs.words.first_and_behind.Given as goal

abbrev pub invariant-loop-k : goal.invariant-loop-k
invariant-loop-k l = All (λ name. values_found l.matches name ≡ []) (take l.k l.names)
