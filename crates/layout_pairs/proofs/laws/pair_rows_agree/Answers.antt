use Rattle.layout_pairs.proofs.laws.PairRowLaws.{rows_agree}
use Rattle.layout_pairs.proofs.laws.pair_rows_agree.Goals as goal

pub returns : goal.returns
returns g c layer_map size = rows_agree layer_map g.L.Layout.covers size
