use Rattle.short_area.proofs.LeaderLaws.{parts_all, parts_more, parts_none}
use Rattle.short_area.proofs.leaders.parts_in.Goals as goal

pub loop-zone-init : goal.loop-zone-init
loop-zone-init c = rw c.new-parts.ensures.items (parts_none c.args.label c.args.bounds)

pub loop-zone-preserved : goal.loop-zone-preserved
loop-zone-preserved c =
    parts_more c.args.zones.now c.loop-zone.zone-index c.zone-item.result c.args.label c.args.bounds c.loop-zone.parts.items c.add_part.new.parts.items c.loop-zone-test.true
    c.zone-item.is c.in_ok-add_part.ensures c.loop-zone.invariant

pub returns : goal.returns
returns c = parts_all c.args.zones.now c.loop-zone.zone-index c.args.label c.args.bounds c.loop-zone.parts.items c.loop-zone-test.false c.loop-zone.invariant
