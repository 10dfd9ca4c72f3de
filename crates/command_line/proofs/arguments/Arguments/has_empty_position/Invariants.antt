use Rattle.std.proofs.Common.{All, take}
use Rattle.command_line.specs.Requests.{IsNotEmpty}
use Rattle.command_line.proofs.arguments.Arguments.has_empty_position.Given as goal

abbrev pub invariant-loop-word : goal.invariant-loop-word
invariant-loop-word l = All (λ word. IsNotEmpty word.now) (take l.word-index l.self.positions.items)
