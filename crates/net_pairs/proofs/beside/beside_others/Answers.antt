use Rattle.net_pairs.proofs.BesideLaws.{all_kept, none_kept, one_kept}
use Rattle.net_pairs.proofs.beside.beside_others.Goals as goal

pub loop-zone-init : goal.loop-zone-init
loop-zone-init c = none_kept c.args.zones.now _ c.new-kept.ensures.items

pub loop-zone-preserved : goal.loop-zone-preserved
loop-zone-preserved c = one_kept c.args.zones.now c.loop-zone.zone-index c.zone-item.result c.loop-zone-test.true c.zone-item.is _ _ c.loop-zone.invariant c.in_ok-keep_beside.ensures

pub returns : goal.returns
returns c = all_kept c.args.zones.now c.loop-zone.zone-index _ c.loop-zone-test.false c.loop-zone.invariant
