use Rattle.remnants.proofs.ReleaseLaws.{plain_more}
use Rattle.remnants.proofs.releasing.found_plain.Goals as goal
use Rattle.remnants.proofs.releasing.found_plain.Goals.{in-None+in_ok-push-in-None, in-Some}

pub loop-one-preserved : goal.loop-one-preserved
loop-one-preserved c =
    elim c.match-one.branch [
      | in-None+in_ok-push-in-None w ↦ rw (w.boxes-is, w.in_ok-push-in-None.ensures.items)
          (plain_more c.args.loose.now c.loop-one.one-index c.one-item.result c.loop-one.boxes.items c.loop-one-test.true c.one-item.is w.in-None.is c.loop-one.invariant)
      | in-Some w ↦ rw w.boxes-is c.loop-one.invariant
    ]
