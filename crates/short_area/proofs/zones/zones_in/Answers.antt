use Rattle.short_area.proofs.ZoneLaws.{alike_all, alike_more, clip_inside}
use Rattle.short_area.proofs.zones.zones_in.Goals as goal

pub loop-zone-preserved : goal.loop-zone-preserved
loop-zone-preserved c =
    alike_more c.args.part c.args.zones.now c.loop-zone.zone-index c.zone-item.result c.clip.result c.loop-zone.inside.items c.add_zone.new.zones.items c.loop-zone-test.true c.zone-item.is
    (clip_inside c.clip.result c.zone-item.result.rect c.args.part c.clip.ensures.some c.clip.ensures.none) c.in_ok-add_zone.ensures c.loop-zone.invariant

pub returns : goal.returns
returns c = alike_all c.args.part c.args.zones.now c.loop-zone.zone-index c.loop-zone.inside.items c.loop-zone-test.false c.loop-zone.invariant
