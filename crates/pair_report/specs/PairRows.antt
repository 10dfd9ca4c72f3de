-- rows of pairs of nets, from what is counted metal by metal
use Rattle.std.specs.Prelude.{ℕ, List, map, flat_map}
use Rattle.map_model.specs.declared.measure.Measure.{Measure}
use Rattle.gauges.specs.declared.pair_row.PairRow.{PairRow}
use Rattle.pair_report.specs.declared.tables.PairTables.{PairTables}

-- two nets of the metal of this name, by their numbers, and their area for defects of this size
abbrev pub pair_row : Measure → ℕ → List ℕ → ℕ × ℕ × ℕ → PairRow
pair_row measure size layer pair =
    record { layer = layer; first = pair.0; second = pair.1; measure = measure; size = size; area = pair.2 }

-- the rows of a metal of this name, one for each of these pairs
abbrev pub rows_of_metal : Measure → ℕ → List ℕ → List (ℕ × ℕ × ℕ) → List PairRow
rows_of_metal measure size layer pairs = map (pair_row measure size layer) pairs

-- the rows of all metals, one metal after the other
abbrev pub pair_rows : PairTables → List PairRow
pair_rows tables = flat_map (λ metal. rows_of_metal tables.measure tables.size metal.layer metal.pairs) tables.metals
