use Rattle.std.proofs.Common.{arith}
use Rattle.lists.proofs.Words.{ints}
use Rattle.ring_test.proofs.MergeLaws.{more_more, more_nothing, more_one_apart, more_one_joined, more_two_apart, more_two_joined}
use Rattle.ring_test.proofs.merging.Merged.with_run.Goals as goal

pub returns-in-Nothing : goal.returns-in-Nothing
returns-in-Nothing c runs earlier so_far = more_nothing runs c.args.run c.args.self earlier so_far c.in-Nothing.is

pub returns-in-More : goal.returns-in-More
returns-in-More c runs earlier so_far = more_more runs c.args.run c.args.self earlier so_far c.in-More.is

pub returns-else-run-only : goal.returns-else-run-only
returns-else-run-only c runs earlier so_far =
    more_one_joined runs c.args.run c.args.self earlier so_far c.in-One.only _ c.in-One.is (omega (arith, ints)) c.extended.ensures.from c.extended.ensures.to

pub returns-else-run-last : goal.returns-else-run-last
returns-else-run-last c runs earlier so_far =
    more_two_joined runs c.args.run c.args.self earlier so_far c.in-Two.first c.in-Two.last _ c.in-Two.is (omega (arith, ints)) c.extended-in-Two.ensures.from c.extended-in-Two.ensures.to

pub returns-then-run-only : goal.returns-then-run-only
returns-then-run-only c runs earlier so_far =
    more_one_apart runs c.args.run c.args.self earlier so_far c.in-One.only c.in-One.is (omega (arith, ints))

pub returns-then-run-last : goal.returns-then-run-last
returns-then-run-last c runs earlier so_far =
    more_two_apart runs c.args.run c.args.self earlier so_far c.in-Two.first c.in-Two.last c.in-Two.is (omega (arith, ints))
