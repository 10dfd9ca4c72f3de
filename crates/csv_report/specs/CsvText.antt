-- rows as CSV: a head, and a line for each row
use Rattle.std.specs.Prelude.{ℕ, List, [], ◌∷◌, ◌++◌, codes, flat_map}
use Rattle.lists.specs.Words.{concat, decimal}
use Rattle.questions.specs.KindTexts.{kind_text}
use Rattle.questions.specs.declared.row.Row.{Row}
use Rattle.report.specs.Report.{letter_of}

-- a row's line, with the newline at its end
abbrev pub csv_line : Row → List ℕ
csv_line row = concat (
    kind_text row.kind ∷ codes "," ∷ row.layer
    ∷ codes "," ∷ letter_of row.measure ∷ codes "," ∷ decimal row.size
    ∷ codes "," ∷ decimal row.area
    ∷ codes "," ∷ decimal row.weight
    ∷ codes "\n" ∷ [])

-- the names of the columns, and then the lines
abbrev pub csv_text : List Row → List ℕ
csv_text rows = codes "kind,layer,measure,size,area,weight\n" ++ flat_map csv_line rows
