use Rattle.std.proofs.Common.{length}
use Rattle.command_line.specs.inside.Arguments.{HasRead, given_by}
use Rattle.command_line.proofs.arguments.Arguments.read.Given as goal

abbrev pub invariant-loop-arguments : goal.invariant-loop-arguments
invariant-loop-arguments l = HasRead l.words (given_by l.arguments) l.rest

abbrev pub decreases-loop-arguments : goal.decreases-loop-arguments
decreases-loop-arguments l = length l.rest
