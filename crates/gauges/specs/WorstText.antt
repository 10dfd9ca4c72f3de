-- the text of the gauge `Worst`
use Rattle.std.specs.Prelude.{ℕ, Bool, List, [], ◌∷◌, ◌++◌, ◌≡◌, ◌<◌, ◌≤◌, All, Option, nat_le, codes, find}
use Rattle.lists.specs.Words.{concat, decimal, option_map_or}
use Rattle.std.specs.List.{list_all}
use Rattle.report.specs.Report.{letter_of}
use Rattle.gauges.specs.declared.pair_row.PairRow.{PairRow}

-- no row of the list has a greater area
abbrev pub is_worst : List PairRow → PairRow → Bool
is_worst rows row = list_all (λ other. nat_le other.area row.area) rows

-- the first row with the greatest area, where there are rows
abbrev pub worst_of : List PairRow → Option PairRow
worst_of rows = find (is_worst rows) rows

-- the line of a worst row, with the newline at its end
abbrev pub worst_line : PairRow → List ℕ
worst_line row = concat (
    codes "worst " ∷ row.layer
    ∷ codes " " ∷ decimal row.first ∷ codes " " ∷ decimal row.second
    ∷ codes " " ∷ letter_of row.measure ∷ codes "=" ∷ decimal row.size
    ∷ codes " area=" ∷ decimal row.area
    ∷ codes "\n" ∷ [])

-- the line of the worst row, or that there is none
abbrev pub worst_text : List PairRow → List ℕ
worst_text rows = option_map_or worst_line (worst_of rows) (codes "worst none\n")

-- the row stands in the list, those before it have lesser areas, and those behind it no greater ones
pub record IsFirstWorst (rows : List PairRow) (row : PairRow) : Type 0 where
  pub front : List PairRow
  pub back : List PairRow
  pub parts : rows ≡ front ++ row ∷ back
  pub lesser : All (λ other. other.area < row.area) front
  pub no_greater : All (λ other. other.area ≤ row.area) back
