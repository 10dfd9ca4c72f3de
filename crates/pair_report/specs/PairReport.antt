-- the text of the pairs of nets of a layout
use Rattle.std.specs.Prelude.{ℕ, List, [], ◌∷◌, ◌++◌, codes, flat_map, length}
use Rattle.lists.specs.Words.{concat, decimal}
use Rattle.gauges.specs.GaugeViews.{GaugeView, texts_after}
use Rattle.gauges.specs.declared.pair_row.PairRow.{PairRow}
use Rattle.report.specs.Report.{letter_of}

-- the line of two nets, with the newline at its end
abbrev pub pair_line : PairRow → List ℕ
pair_line row = concat (
    codes "pair " ∷ row.layer
    ∷ codes " " ∷ decimal row.first ∷ codes " " ∷ decimal row.second
    ∷ codes " " ∷ letter_of row.measure ∷ codes "=" ∷ decimal row.size
    ∷ codes " area=" ∷ decimal row.area
    ∷ codes "\n" ∷ [])

-- the lines of these rows, and how many they are
abbrev pub pair_text : List PairRow → List ℕ
pair_text rows = flat_map pair_line rows ++ codes "pairs " ++ decimal (length rows) ++ codes "\n"

-- the text of these rows, and then what each gauge prints for the rows that it had seen before, followed by these
abbrev pub whole_pair_text : List PairRow → List (GaugeView PairRow) → List ℕ
whole_pair_text rows gauges = pair_text rows ++ texts_after rows gauges
