-- what workers credit for a job
use Rattle.std.specs.Prelude.{ℕ, ◌<◌, ◌≤◌, ◌≡◌, All}
use Rattle.tile_board.specs.Closing.{sum_below}
use Rattle.tile_board.specs.Counts.{Drew, times_credited}
use Rattle.tile_board.specs.declared.views.Limits.{Limits}
use Rattle.tile_board.specs.declared.views.View.{View}

-- the board has the tickets and the slots of the job, and takes each of its amounts
pub record IsMadeFor (limits : Limits) (tickets slots : ℕ) (IsAmount : ℕ → ℕ → ℕ → Type 0) : Type 0 where
  pub tickets_are : limits.tickets ≡ tickets
  pub slots_are : limits.slots ≡ slots
  pub fits : (ticket slot n : ℕ) → ticket < tickets → slot < slots → IsAmount ticket slot n → n ≤ limits.cap

-- the hand has one credit for each of its tickets and each slot, and each of its credits is of the amount that its ticket has for
-- its slot
pub record HasCredits (slots : ℕ) (IsAmount : ℕ → ℕ → ℕ → Type 0) (view : View) : Type 0 where
  pub each : (ticket slot : ℕ) → Drew view ticket → slot < slots → times_credited view ticket slot ≡ 1
  pub within : All (λ c. c.slot < slots) view.credits
  pub amounts : All (λ c. IsAmount c.ticket c.slot c.amount) view.credits

-- the total is the sum of one amount for each ticket, each of them the amount that the ticket has for the slot
pub record IsSumOfAmounts (tickets : ℕ) (IsAmount : ℕ → ℕ → ℕ → Type 0) (slot total : ℕ) : Type 0 where
  pub amount : ℕ → ℕ
  pub are_amounts : (ticket : ℕ) → ticket < tickets → IsAmount ticket slot (amount ticket)
  pub is_sum : total ≡ sum_below tickets amount
