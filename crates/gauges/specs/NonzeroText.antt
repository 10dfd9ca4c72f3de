-- the text of the gauge `Nonzero`
use Rattle.std.specs.Prelude.{ℕ, Bool, List, [], ◌∷◌, nat_lt, codes, count_by, length}
use Rattle.lists.specs.Words.{concat, decimal}
use Rattle.questions.specs.declared.row.Row.{Row}

-- the row's fault happens at some cell
abbrev pub has_area : Row → Bool
has_area row = nat_lt 0 row.area

-- how many rows have an area, and how many rows there are
abbrev pub nonzero_text : List Row → List ℕ
nonzero_text rows = concat (
    codes "nonzero " ∷ decimal (count_by has_area rows)
    ∷ codes " of " ∷ decimal (length rows)
    ∷ codes "\n" ∷ [])
