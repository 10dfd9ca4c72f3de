use Rattle.layout_regions.proofs.laws.RegionLaws.{count_alike, cover_alike}
use Rattle.layout_regions.proofs.laws.regions_cover_alike.Goals as goal

pub returns-clause-cells : goal.returns-clause-cells
returns-clause-cells g c layer_map = cover_alike layer_map g.L.Layout.covers

pub returns-clause-count : goal.returns-clause-count
returns-clause-count g c layer_map = count_alike layer_map g.L.Layout.covers
