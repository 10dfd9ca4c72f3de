-- rows whose layers are given by places in a list of names
use Rattle.std.specs.Prelude.{ℕ, List, [], All, Some, length, map, slice_get, slice_index_or, ◌<◌, ◌≡◌}
use Rattle.gauges.specs.declared.pair_row.PairRow.{PairRow}
use Rattle.gauges.specs.declared.pair_rows.KeptRow.{KeptRow}

-- the row with this name of its layer
abbrev pub pair_row : List ℕ → KeptRow → PairRow
pair_row layer row = record {
  layer = layer;
  first = row.first;
  second = row.second;
  measure = row.measure;
  size = row.size;
  area = row.area;
}

-- each row with the name that stands at its place
abbrev pub pair_rows : List (List ℕ) → List KeptRow → List PairRow
pair_rows names rows = map (λ row. pair_row (slice_index_or names row.layer []) row) rows

-- a name stands at the place of each row
abbrev pub AreNamed : List (List ℕ) → List KeptRow → Type 0
AreNamed names rows = All (λ row. row.layer < length names) rows

-- each name stays at its place
abbrev pub KeepPlaces : List (List ℕ) → List (List ℕ) → Type 0
KeepPlaces old new = (place : ℕ) (name : List ℕ) → slice_get old place ≡ Some name → slice_get new place ≡ Some name
