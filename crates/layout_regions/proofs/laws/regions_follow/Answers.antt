use Rattle.layout_regions.proofs.laws.AlikeLaws.{region_follows}
use Rattle.layout_regions.proofs.laws.regions_follow.Goals as goal

pub returns : goal.returns
returns g c same layer_map = region_follows layer_map g.L.Layout.covers g.O.Layout.covers same
