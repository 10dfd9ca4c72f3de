use Rattle.std.proofs.Common.{◌≢◌, [], All, take}
use Rattle.command_line.specs.inside.Command.{values_found}
use Rattle.command_line.proofs.words.first_missing.Given as goal

abbrev pub invariant-loop-name : goal.invariant-loop-name
invariant-loop-name l = All (λ name. values_found l.matches name ≢ []) (take l.name-index l.names)
