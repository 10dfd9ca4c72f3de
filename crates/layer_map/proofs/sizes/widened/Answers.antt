use Rattle.std.proofs.Common.{take_all}
use Rattle.lists.proofs.Words.{take_more}
use Rattle.layer_map.proofs.sizes.widened.Goals as goal

pub loop-number-preserved : goal.loop-number-preserved
loop-number-preserved c =
    let more = take_more c.args.numbers.now c.loop-number.number-index 0 c.loop-number-test.true in
    let pushed = c.in_ok-push.ensures.items in
    let so_far = c.loop-number.invariant in
    cc

pub returns : goal.returns
returns c = rw (take_all c.loop-number.number-index c.args.numbers.now c.loop-number-test.false) at c.loop-number.invariant
