use Rattle.std.proofs.Common.{rules}
use Rattle.command_line.specs.inside.Arguments.{BeginWith, given_by}
use Rattle.command_line.proofs.ReadingLaws.{one_more_read}
use Rattle.command_line.proofs.arguments.Arguments.read.Goals as goal

pub loop-arguments-preserved : goal.loop-arguments-preserved
loop-arguments-preserved c =
    let first : BeginWith c.loop-arguments.rest.now c.in-Some.argument c.in-Some.after.now = search rules in
    one_more_read c.args.words.now c.loop-arguments.rest.now c.in-Some.after.now (given_by c.loop-arguments.arguments) (given_by c.push.new.self)
    c.in-Some.argument c.loop-arguments.invariant first c.in_ok-push.ensures
