-- where in a map's document a fault is: each place as a number, its path
use Rattle.std.specs.Prelude.{ℕ, ◌+◌, ◌*◌}

-- the document, and what stands at its keys
abbrev pub document_path : ℕ
document_path = 1

abbrev pub version_path : ℕ
version_path = 2

abbrev pub sizes_path : ℕ
sizes_path = 3

abbrev pub weights_path : ℕ
weights_path = 4

abbrev pub metals_path : ℕ
metals_path = 5

abbrev pub cuts_path : ℕ
cuts_path = 6

abbrev pub terminals_path : ℕ
terminals_path = 7

abbrev pub contacts_path : ℕ
contacts_path = 8

-- the items of `metal`, `cut` and `terminal`, each by its number, counted from 0
abbrev pub metal_path : ℕ → ℕ
metal_path number = 100 + 10 * number

abbrev pub cut_path : ℕ → ℕ
cut_path number = 300 + 10 * number

abbrev pub terminal_path : ℕ → ℕ
terminal_path number = 1000 + 10 * number

-- what stands at the keys that both a metal and a cut have, by the item's path
abbrev pub name_at : ℕ → ℕ
name_at path = path + 1

abbrev pub pairs_at : ℕ → ℕ
pairs_at path = path + 2

-- what stands at the keys that a cut has besides
abbrev pub lower_at : ℕ → ℕ
lower_at path = path + 3

abbrev pub upper_at : ℕ → ℕ
upper_at path = path + 4

-- what stands at the keys of a terminal, by the item's path
abbrev pub metal_of_terminal_at : ℕ → ℕ
metal_of_terminal_at path = path + 1

abbrev pub x_at : ℕ → ℕ
x_at path = path + 2

abbrev pub y_at : ℕ → ℕ
y_at path = path + 3
