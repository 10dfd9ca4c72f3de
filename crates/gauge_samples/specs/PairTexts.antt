-- the text of a gauge that prints each area
use Rattle.std.specs.Prelude.{ℕ, List, [], ◌∷◌, codes, flat_map}
use Rattle.lists.specs.Words.{concat, decimal}
use Rattle.gauges.specs.declared.pair_row.PairRow.{PairRow}

-- the line of a row
abbrev pub area_line : PairRow → List ℕ
area_line row = concat (codes "saw " ∷ decimal row.area ∷ codes "\n" ∷ [])

-- those of all rows
abbrev pub areas_text : List PairRow → List ℕ
areas_text rows = flat_map area_line rows
