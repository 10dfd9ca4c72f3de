-- what holds of a board at any time
use Rattle.std.specs.Prelude.{ℕ, ◌+◌, ◌<◌, ◌≤◌, ◌≡◌, length, All, min, nat_lt, slice_index, sum_by, if◌then◌else◌}
use Rattle.tile_board.specs.Counts.{times, Drew, times_credited, credited}
use Rattle.tile_board.specs.Machine.{BoardState}
use Rattle.tile_board.specs.declared.views.Limits.{Limits}
use Rattle.tile_board.specs.declared.views.View.{View}

-- as many draws were made as numbers are gone, those made and those left are all, and no hand has more tickets than it
-- made draws
pub record DrawsAddUp (limits : Limits) (s : BoardState) : Type 0 where
  pub made : sum_by (λ v. v.made) s.views ≡ s.next
  pub all : sum_by (λ v. v.made + v.left) s.views ≡ limits.draws
  pub few : All (λ v. length v.tickets ≤ v.made) s.views

-- 1 where the number is below the bound, and else 0
abbrev pub once_below : ℕ → ℕ → ℕ
once_below bound number = if nat_lt number bound then 1 else 0

-- the hands together have each ticket once whose number is gone, and nothing else
abbrev pub TicketsAreOnce : Limits → BoardState → Type 0
TicketsAreOnce limits s =
    (number : ℕ) → sum_by (λ v. times v.tickets number) s.views ≡ once_below (min s.next limits.tickets) number

-- each credit of a hand is for a ticket that it drew, to a slot of the board, and at most the cap, and no two are for
-- the same ticket and slot
pub record CreditsFit (limits : Limits) (v : View) : Type 0 where
  pub drawn : All (λ c. Drew v c.ticket) v.credits
  pub slots : All (λ c. c.slot < limits.slots) v.credits
  pub amounts : All (λ c. c.amount ≤ limits.cap) v.credits
  pub once : (ticket slot : ℕ) → times_credited v ticket slot ≤ 1

-- there is a total for each slot, and it is the sum of what all hands added
pub record TotalsAddUp (limits : Limits) (s : BoardState) : Type 0 where
  pub one_each : length s.totals ≡ limits.slots
  pub sums : (slot : ℕ) → slot < limits.slots → slice_index s.totals slot ≡ sum_by (λ v. credited v slot) s.views

-- draws, tickets, credits and totals are as they should be
pub record IsSound (limits : Limits) (s : BoardState) : Type 0 where
  pub draws : DrawsAddUp limits s
  pub tickets : TicketsAreOnce limits s
  pub credits : All (CreditsFit limits) s.views
  pub totals : TotalsAddUp limits s
