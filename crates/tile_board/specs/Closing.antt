-- what the hand that closes a board knows of the totals
use Rattle.std.specs.Prelude.{ℕ, zero, suc, ◌+◌, ◌<◌, ◌≤◌, ◌≡◌, ◌↔◌, List, All, Contains, slice_index}
use Rattle.tile_board.specs.Counts.{Drew, times_credited, credited}
use Rattle.tile_board.specs.Machine.{BoardState}
use Rattle.tile_board.specs.Sound.{IsSound}
use Rattle.tile_board.specs.declared.views.Limits.{Limits}
use Rattle.tile_board.specs.declared.views.View.{View}

-- the hand made or has left all draws of the board, so no other hand made any
abbrev pub HasAllDraws : Limits → View → Type 0
HasAllDraws limits v = v.made + v.left ≡ limits.draws

-- the totals are those of a sound state of the machine, in which the hand's view is one of the views
pub record AreFinal (limits : Limits) (v : View) (totals : List ℕ) : Type 0 where
  pub state : BoardState
  pub sound : IsSound limits state
  pub among : Contains state.views v
  pub same : (slot : ℕ) → slot < limits.slots → slice_index totals slot ≡ slice_index state.totals slot

-- no total is less than what the hand added to it
abbrev pub AreAtLeast : Limits → View → List ℕ → Type 0
AreAtLeast limits v totals = (slot : ℕ) → slot < limits.slots → credited v slot ≤ slice_index totals slot

-- each total is what the hand added to it
abbrev pub AreSums : Limits → View → List ℕ → Type 0
AreSums limits v totals = (slot : ℕ) → slot < limits.slots → slice_index totals slot ≡ credited v slot

-- the hand drew each ticket
abbrev pub DrewAll : Limits → View → Type 0
DrewAll limits v = (ticket : ℕ) → Drew v ticket ↔ (ticket < limits.tickets)

-- the hand credited each of its tickets to the slot, with the amount that the ticket has
pub record CreditsEach (v : View) (slot : ℕ) (amount : ℕ → ℕ) : Type 0 where
  pub each : (ticket : ℕ) → Drew v ticket → times_credited v ticket slot ≡ 1
  pub amounts : All (λ c. c.slot ≡ slot → c.amount ≡ amount c.ticket) v.credits

-- the sum over the numbers below a bound
abbrev pub sum_below : ℕ → (ℕ → ℕ) → ℕ
sum_below zero f = 0
sum_below (suc n) f = sum_below n f + f n
