use Rattle.std.proofs.Common.{arith}
use Rattle.lists.proofs.Words.{ints}
use Rattle.outlines.proofs.FillingLaws.{finished, not_begun}
use Rattle.outlines.proofs.filling.finish_run.Goals as goal

pub returns-then-run-row : goal.returns-then-run-row
returns-then-run-row c = not_begun c.args.run c.args.row c.args.done.now.items (omega (arith, ints, c.if-run-row.true))

pub returns : goal.returns
returns c =
    rw c.in_ok-push.ensures.items
    (finished c.args.run c.args.row c.args.done.now.items _ (omega (arith, ints)) (omega (arith, ints)) (omega (arith, ints)) (omega (arith, ints)) (omega
    (arith, ints, c.if-run-row.false)) c.requires)
