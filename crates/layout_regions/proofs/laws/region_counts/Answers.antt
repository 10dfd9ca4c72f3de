use Rattle.layout_regions.proofs.laws.RegionLaws.{area_at_place, area_by_name}
use Rattle.layout_regions.proofs.laws.region_counts.Goals as goal

pub returns : goal.returns
returns g c = record {
  at_its_place = λ layer_map rows k question row rects answered. area_at_place layer_map g.L.Layout.covers rows answered rects k question row;
  by_name = λ layer_map rows question row rects different answered. area_by_name layer_map g.L.Layout.covers rows answered rects different question row;
}
