use Rattle.std.proofs.Common.{Global, Vec}
use Rattle.lists.proofs.Words.{IfOk-weaker}
use Rattle.net_pairs.proofs.AreaLaws.{listed_area}
use Rattle.net_pairs.proofs.SumLaws.{Item, listed_sums}
use Rattle.net_pairs.proofs.areas.pair_areas.Goals as goal

pub returns : goal.returns
returns c = IfOk-weaker c.finish.result _ _ (λ (areas : Vec Item Global) are. record {
  exact = λ one other cells.
      let listed = listed_sums c.add_areas.new.sums.items.items areas.items are one other cells in
      let area = listed_area c.args.pieces.now c.in_ok-zones.zones.items c.args.r c.args.window c.in_ok-zones.ensures _ c.add_areas.new.sums.items.items c.new-sums.ensures c.in_ok-add_areas.ensures
      one other cells in
      (λ h. area.0 (listed.0 h), λ h. listed.1 (area.1 h));
  rising = are.rising;
}) c.finish.ensures
