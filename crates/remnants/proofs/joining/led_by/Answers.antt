use Rattle.std.proofs.Common.{length, refl, arith}
use Rattle.lists.proofs.Words.{slice_get_read, slice_get-get_or}
use Rattle.remnants.proofs.LeaderLaws.{none_led, led_more, all_led}
use Rattle.remnants.proofs.joining.led_by.Goals as goal

pub loop-number-init : goal.loop-number-init
loop-number-init c = rw c.in_ok-led.ensures.items (none_led c.args.fixed.now c.args.leaders.now)

pub loop-number-preserved : goal.loop-number-preserved
loop-number-preserved c =
    let fixed = c.args.fixed.now in
    let leaders = c.args.leaders.now in
    let number = c.loop-number.number in
    let at = slice_get_read fixed (length fixed) number c.index-fixed-number.result refl c.loop-number-test.true c.index-fixed-number.is in
    rw c.in_ok-push.ensures.items (led_more fixed leaders number _ c.loop-number.led.items c.index-fixed-number.result at (slice_get-get_or leaders number 0 (omega arith)) c.loop-number.invariant)

pub returns : goal.returns
returns c = all_led c.args.fixed.now c.args.leaders.now c.loop-number.number c.loop-number.led.items (omega arith) c.loop-number.invariant
