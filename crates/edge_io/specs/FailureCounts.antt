-- counts of failures, which end at the last value of `u64`
use Rattle.std.specs.Prelude.{ℕ, ◌+◌, ◌-◌, ◌^◌, ◌≡◌, ◌<◌, ◌⊎◌, min}

-- The count rose: it is greater than before, or it stood and stands at the last value. Either way it did not fall.
abbrev pub Rose : ℕ → ℕ → Type 0
Rose old new = (old < new) ⊎ ((old ≡ 2 ^ 64 - 1) × (new ≡ 2 ^ 64 - 1))

-- one more, or the last value
abbrev pub one_more : ℕ → ℕ
one_more count = min (count + 1) (2 ^ 64 - 1)
