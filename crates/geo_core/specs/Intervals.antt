-- intervals: the whole numbers from `low` to before `high`
use Rattle.std.specs.Prelude.{ℤ, pos, neg_ℤ, ◌+ℤ◌, ◌≤ℤ◌, ◌<ℤ◌, ◌≡◌, ◌⊎◌}

-- the number is one of them
pub record IsIn (low high x : ℤ) : Type 0 where
  pub from : low ≤ℤ x
  pub before : x <ℤ high

-- there is at least one, and both ends lie within `far` of 0
pub record IsInterval (far low high : ℤ) : Type 0 where
  pub some : low <ℤ high
  pub least : neg_ℤ far ≤ℤ low
  pub most : high ≤ℤ far

-- the two numbers are at most `by` apart
abbrev pub IsWithin : ℤ → ℤ → ℤ → Type 0
IsWithin a b by = (a ≤ℤ (b +ℤ by)) × (b ≤ℤ (a +ℤ by))

-- one of the two numbers follows the other
abbrev pub Adjoins : ℤ → ℤ → Type 0
Adjoins a b = (a +ℤ pos 1 ≡ b) ⊎ (b +ℤ pos 1 ≡ a)

-- the interval has a number at most `by` from this one
abbrev pub ComesWithin : ℤ → ℤ → ℤ → ℤ → Type 0
ComesWithin low high by x = (d : ℤ) × IsIn low high d × IsWithin x d by

-- the two intervals have a number in common
abbrev pub IntervalsOverlap : ℤ → ℤ → ℤ → ℤ → Type 0
IntervalsOverlap a0 a1 b0 b1 = (x : ℤ) × IsIn a0 a1 x × IsIn b0 b1 x

-- they have a number in common, or one each of which one follows the other
abbrev pub IntervalsTouch : ℤ → ℤ → ℤ → ℤ → Type 0
IntervalsTouch a0 a1 b0 b1 = (x y : ℤ) × IsIn a0 a1 x × IsIn b0 b1 y × ((x ≡ y) ⊎ Adjoins x y)

-- the one interval lies in the other
abbrev pub IsPartOf : ℤ → ℤ → ℤ → ℤ → Type 0
IsPartOf a0 a1 b0 b1 = (x : ℤ) → IsIn a0 a1 x → IsIn b0 b1 x

-- the least interval in which both lie
pub record IsIntervalJoin (a0 a1 b0 b1 low high : ℤ) : Type 0 where
  pub first : IsPartOf a0 a1 low high
  pub second : IsPartOf b0 b1 low high
  pub least : (c0 c1 : ℤ) → IsPartOf a0 a1 c0 c1 → IsPartOf b0 b1 c0 c1 → IsPartOf low high c0 c1
