-- the text of the gauge `Peak`
use Rattle.std.specs.Prelude.{ℕ, Bool, List, [], ◌∷◌, Option, nat_le, codes, find}
use Rattle.lists.specs.Words.{concat, decimal, option_map_or}
use Rattle.std.specs.List.{list_all}
use Rattle.questions.specs.KindTexts.{kind_text}
use Rattle.questions.specs.declared.row.Row.{Row}
use Rattle.report.specs.Report.{letter_of, product_of}

-- no row of the list has a greater product
abbrev pub is_greatest : List Row → Row → Bool
is_greatest rows row = list_all (λ other. nat_le (product_of other) (product_of row)) rows

-- the first row with the greatest product, where there are rows
abbrev pub peak_of : List Row → Option Row
peak_of rows = find (is_greatest rows) rows

-- the line of a peak, with the newline at its end
abbrev pub peak_line : Row → List ℕ
peak_line row = concat (
    codes "peak " ∷ kind_text row.kind ∷ codes " " ∷ row.layer
    ∷ codes " " ∷ letter_of row.measure ∷ codes "=" ∷ decimal row.size
    ∷ codes " sum=" ∷ decimal (product_of row)
    ∷ codes "\n" ∷ [])

-- the line of the peak, or that there is none
abbrev pub peak_text : List Row → List ℕ
peak_text rows = option_map_or peak_line (peak_of rows) (codes "peak none\n")
