use Rattle.short_area.proofs.ZoneLaws.{split_none, split_own, split_other, split_all}
use Rattle.short_area.proofs.labels.split.Goals as goal
use Rattle.short_area.proofs.labels.split.Goals.{then-zone-label+in_ok-push, else-zone-label+in_ok-push-2}

pub loop-zone-init : goal.loop-zone-init
loop-zone-init c = rw (c.new-own.ensures.items, c.new-others.ensures.items) (split_none c.args.label)

pub loop-zone-preserved : goal.loop-zone-preserved
loop-zone-preserved c =
    elim c.if-zone-label.branch [
      | then-zone-label+in_ok-push w ↦ rw (w.own-is, w.others-is) (split_own _ _ _ _ _ _ c.loop-zone-test.true c.zone-item.is c.loop-zone.invariant _ w.in_ok-push.ensures.items w.if-zone-label.true)
      | else-zone-label+in_ok-push-2 w ↦ rw (w.own-is, w.others-is) (split_other _ _ _ _ _ _ c.loop-zone-test.true c.zone-item.is c.loop-zone.invariant _ w.in_ok-push-2.ensures.items
          w.if-zone-label.false)
    ]

pub returns : goal.returns
returns c = split_all c.args.zones.now c.loop-zone.zone-index c.args.label c.loop-zone.own.items c.loop-zone.others.items c.loop-zone-test.false c.loop-zone.invariant
