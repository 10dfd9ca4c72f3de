use Rattle.short_area.proofs.LeaderLaws.{others_all, others_none, others_one, others_same}
use Rattle.short_area.proofs.leaders.others_of.Goals as goal
use Rattle.short_area.proofs.leaders.others_of.Goals.{then-zone-leader+in_ok-push, else-zone-leader}

pub loop-zone-init : goal.loop-zone-init
loop-zone-init c = rw c.new-others.ensures.items (others_none c.args.leader)

pub loop-zone-preserved : goal.loop-zone-preserved
loop-zone-preserved c =
    elim c.if-zone-leader.branch [
      | then-zone-leader+in_ok-push w ↦ rw w.others-is (others_one _ _ _ _ _ c.loop-zone-test.true c.zone-item.is c.loop-zone.invariant _ w.in_ok-push.ensures.items w.if-zone-leader.true)
      | else-zone-leader w ↦ rw w.others-is (others_same _ _ _ _ _ c.loop-zone-test.true c.zone-item.is c.loop-zone.invariant w.if-zone-leader.false)
    ]

pub returns : goal.returns
returns c = others_all c.args.zones.now c.loop-zone.zone-index c.args.leader c.loop-zone.others.items c.loop-zone-test.false c.loop-zone.invariant
