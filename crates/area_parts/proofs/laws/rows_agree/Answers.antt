use Rattle.area_parts.proofs.laws.UniqueLaws.{rows_agree}
use Rattle.area_parts.proofs.laws.rows_agree.Goals as goal

pub returns : goal.returns
returns g c layer_map = rows_agree layer_map g.L.Layout.covers
