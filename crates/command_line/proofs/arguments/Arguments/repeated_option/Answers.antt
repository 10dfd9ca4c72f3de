use Rattle.std.proofs.Common.{arith}
use Rattle.command_line.specs.declared.option_name.TheConstants.{OPTIONS}
use Rattle.command_line.proofs.CheckLaws.{each_few, is_repeated, one_more_few}
use Rattle.command_line.proofs.arguments.Arguments.repeated_option.Goals as goal

pub returns-then-count-gt1-clause-some : goal.returns-then-count-gt1-clause-some
returns-then-count-gt1-clause-some c = is_repeated c.args.self.now.options.items _ c.count.result c.count.ensures c.if-count-gt1.true

pub loop-name-preserved : goal.loop-name-preserved
loop-name-preserved c =
    one_more_few c.args.self.now.options.items OPTIONS c.loop-name.name-index _ c.count.result (omega arith) c.loop-name.invariant c.count.ensures c.if-count-gt1.false

pub returns-clause-none : goal.returns-clause-none
returns-clause-none c = each_few c.args.self.now.options.items c.loop-name.name-index c.loop-name-test.false c.loop-name.invariant
