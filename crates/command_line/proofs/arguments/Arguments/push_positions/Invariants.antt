use Rattle.std.proofs.Common.{◌≡◌, ◌++◌, take}
use Rattle.command_line.specs.inside.Arguments.{given_by}
use Rattle.command_line.proofs.arguments.Arguments.push_positions.Given as goal

abbrev pub invariant-loop-word : goal.invariant-loop-word
invariant-loop-word l = given_by l.self ≡ record { options = (given_by l.initial.self).options; positions = (given_by l.initial.self).positions ++ take l.word-index l.words }
