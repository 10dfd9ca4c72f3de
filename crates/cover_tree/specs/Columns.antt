-- columns between places, and how wide they are
use Rattle.std.specs.Prelude.{ℕ, zero, suc, ◌+◌, ◌-◌, min, ℤ, pos, ◌-ℤ◌, ◌<ℤ◌, List, length, AllPairs, slice_index_or, unsigned_abs, nat_le}
use Rattle.std.specs.Prelude.{if◌then◌else◌}

-- each place lies before all later ones
abbrev pub AreRising : List ℤ → Type 0
AreRising places = AllPairs (λ one later. one <ℤ later) places

-- the place with this number, counted from 0, or the last place where the number is past it
abbrev pub place_at : List ℤ → ℕ → ℤ
place_at places k = slice_index_or places (min k (length places - 1)) (pos 0)

-- the width of a column, from its place to the next: 0 where it is past the last place
abbrev pub width_of : List ℤ → ℕ → ℕ
width_of places column = unsigned_abs (place_at places (suc column) -ℤ place_at places column)

-- the sum of so many values, from the one at `from` on
abbrev pub total : (ℕ → ℕ) → ℕ → ℕ → ℕ
total value from zero = 0
total value from (suc count) = value from + total value (suc from) count

-- the total width of those of so many columns, from one on, whose depth is at least `least`
abbrev pub deep_width : List ℤ → (ℕ → ℕ) → ℕ → ℕ → ℕ → ℕ
deep_width places depth least = total (λ column. if nat_le least (depth column) then width_of places column else 0)
