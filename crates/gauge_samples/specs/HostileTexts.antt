-- the text of a gauge with little room
use Rattle.std.specs.Prelude.{ℕ, List, [], ◌∷◌, codes, length}
use Rattle.lists.specs.Words.{concat, decimal}
use Rattle.questions.specs.declared.row.Row.{Row}

-- so many rows were seen, and there is room for so many
abbrev pub room_line : (seen room : ℕ) → List ℕ
room_line seen room = concat (codes "seen " ∷ decimal seen ∷ codes " of " ∷ decimal room ∷ codes "\n" ∷ [])

-- the line for these rows
abbrev pub room_text : ℕ → List Row → List ℕ
room_text room rows = room_line (length rows) room
