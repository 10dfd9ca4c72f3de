use Rattle.std.proofs.Common.{All, take}
use Rattle.command_line.specs.Requests.{IsNotEmpty}
use Rattle.command_line.proofs.arguments.Arguments.empty_option.Given as goal

abbrev pub invariant-loop-name : goal.invariant-loop-name
invariant-loop-name l = All (λ option. IsNotEmpty option.1.now) (take l.name-index l.self.options.items)
