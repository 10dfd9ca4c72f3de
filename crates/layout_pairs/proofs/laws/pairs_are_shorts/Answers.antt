use Rattle.layout_pairs.proofs.laws.ReportLaws.{no_rows_no_areas, shorts_are_touches}
use Rattle.layout_pairs.proofs.laws.pairs_are_shorts.Goals as goal

pub returns : goal.returns
returns g c = record {
  shorts = λ layer_map size metal rows cell listed are small. shorts_are_touches layer_map g.L.Layout.covers size listed rows are metal small cell;
  none = λ layer_map size rows report listed are answered. no_rows_no_areas layer_map g.L.Layout.covers size listed rows are report answered;
}
