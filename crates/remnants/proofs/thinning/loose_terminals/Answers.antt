use Rattle.std.proofs.Common.{take_all}
use Rattle.remnants.proofs.SpreadLaws.{loose_more, loose_none}
use Rattle.remnants.proofs.thinning.loose_terminals.Goals as goal
use Rattle.remnants.proofs.thinning.loose_terminals.Goals.{in-Some+in_ok-push, in_default}

pub loop-one-preserved : goal.loop-one-preserved
loop-one-preserved c =
    let loose = c.args.loose.now in
    let k = c.loop-one.one-index in
    let found = c.loop-one.found.items in
    elim c.match-one.branch [
      | in-Some+in_ok-push w ↦ rw (w.found-is, w.in_ok-push.ensures.items)
          (loose_more loose k c.one-item.result found c.loop-one-test.true c.one-item.is c.loop-one.invariant w.in-Some.terminal w.in-Some.is)
      | in_default w ↦ rw w.found-is (loose_none loose k c.one-item.result found c.loop-one-test.true c.one-item.is c.loop-one.invariant w.in_default.is)
    ]

pub returns : goal.returns
returns c = rw (take_all c.loop-one.one-index c.args.loose.now c.loop-one-test.false) at c.loop-one.invariant
