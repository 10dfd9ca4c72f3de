use Rattle.std.proofs.Common.{◌≤◌, All, length, take}
use Rattle.command_line.specs.inside.Arguments.{given_by}
use Rattle.command_line.specs.Requests.{values_of}
use Rattle.command_line.proofs.arguments.Arguments.repeated_option.Given as goal

abbrev pub invariant-loop-name : goal.invariant-loop-name
invariant-loop-name l = All (λ name. length (values_of (given_by l.self).options name) ≤ 1) (take l.name-index l.options)
