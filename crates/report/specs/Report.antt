-- the text of a report: a line for each row, and then the totals
use Rattle.std.specs.Prelude.{ℕ, Bool, true, false, List, [], ◌∷◌, ◌++◌, ◌*◌, codes, filter, sum_by, flat_map}
use Rattle.lists.specs.Words.{concat, decimal}
use Rattle.map_model.specs.declared.measure.Measure.{Measure}
use Rattle.map_model.specs.declared.measure.Measure.TheVariants.{Radius, Side}
use Rattle.questions.specs.declared.kind.Kind.{Kind}
use Rattle.questions.specs.declared.kind.Kind.TheVariants.{Short, Open, Via}
use Rattle.questions.specs.KindTexts.{kind_text}
use Rattle.questions.specs.declared.row.Row.{Row}

-- area times weight
abbrev pub product_of : Row → ℕ
product_of row = row.area * row.weight

-- the kinds are the same
abbrev pub is_kind : Kind → Kind → Bool
is_kind Short Short = true
is_kind Open Open = true
is_kind Via Via = true
is_kind _ _ = false

-- the products of the rows of this kind, added up
abbrev pub total_of_kind : Kind → List Row → ℕ
total_of_kind kind rows = sum_by product_of (filter (λ row. is_kind kind row.kind) rows)

-- the products of all rows, added up
abbrev pub total_of : List Row → ℕ
total_of rows = sum_by product_of rows

-- the letter that stands before the size
abbrev pub letter_of : Measure → List ℕ
letter_of Radius = codes "r"
letter_of Side = codes "s"

-- a row's line, with the newline at its end
abbrev pub line_text : Row → List ℕ
line_text row = concat (
    kind_text row.kind ∷ codes " " ∷ row.layer
    ∷ codes " " ∷ letter_of row.measure ∷ codes "=" ∷ decimal row.size
    ∷ codes " area=" ∷ decimal row.area
    ∷ codes " weight=" ∷ decimal row.weight
    ∷ codes " sum=" ∷ decimal (product_of row)
    ∷ codes "\n" ∷ [])

-- the lines of the totals: of each kind, and of all
abbrev pub totals_text : List Row → List ℕ
totals_text rows = concat (
    codes "total short " ∷ decimal (total_of_kind Short rows)
    ∷ codes "\ntotal open " ∷ decimal (total_of_kind Open rows)
    ∷ codes "\ntotal via " ∷ decimal (total_of_kind Via rows)
    ∷ codes "\ntotal " ∷ decimal (total_of rows)
    ∷ codes "\n" ∷ [])

-- the line of each row, and then the totals
abbrev pub report_text : List Row → List ℕ
report_text rows = flat_map line_text rows ++ totals_text rows
