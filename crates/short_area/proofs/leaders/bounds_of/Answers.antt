use Rattle.std.proofs.Common.{subst}
use Rattle.geo_core.specs.declared.plane.Labelled.{Labelled}
use Rattle.short_area.proofs.LeaderLaws.{AreBoundsTo, bounds_all, bounds_begun, bounds_more}
use Rattle.short_area.proofs.leaders.bounds_of.Goals as goal

pub loop-zone-init : goal.loop-zone-init
loop-zone-init c =
    subst (λ (zone : Labelled). AreBoundsTo c.args.zones.now 0 zone.rect) c.index-zones-0.is (bounds_begun c.args.zones.now c.index-zones-0.result c.requires c.index-zones-0.is)

pub loop-zone-preserved : goal.loop-zone-preserved
loop-zone-preserved c =
    bounds_more c.args.zones.now c.loop-zone.zone-index c.zone-item.result c.loop-zone.bounds c.join-bounds.result c.loop-zone-test.true c.zone-item.is c.join-bounds.ensures
    c.loop-zone.invariant

pub returns : goal.returns
returns c = bounds_all c.args.zones.now c.loop-zone.zone-index c.loop-zone.bounds c.loop-zone-test.false c.loop-zone.invariant
