use Rattle.net_pairs.proofs.WholeLaws.{none_yet, one_more, ones_all}
use Rattle.net_pairs.proofs.whole.ones.Goals as goal

pub loop-zone-init : goal.loop-zone-init
loop-zone-init c = record { ones = none_yet c.args.part c.args.zones.now _ c.new-kept.ensures.items; found = tt }

pub keep_one-requires : goal.keep_one-requires
keep_one-requires c = c.loop-zone.invariant.found

pub loop-zone-preserved : goal.loop-zone-preserved
loop-zone-preserved c = record {
  ones = one_more c.args.part c.args.zones.now c.loop-zone.zone-index c.zone-item.result c.loop-zone-test.true c.zone-item.is _ _ c.loop-zone.invariant.ones c.in_ok-found.ensures.kept;
  found = c.in_ok-found.ensures.found;
}

pub returns : goal.returns
returns c = ones_all c.args.part c.args.zones.now c.loop-zone.zone-index _ c.loop-zone-test.false c.loop-zone.invariant.ones
