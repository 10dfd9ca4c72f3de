-- what holds of each hand by itself
use Rattle.std.specs.Prelude.{ℕ, ◌≤◌, length, All}
use Rattle.tile_board.specs.Counts.{times, Drew, times_credited}
use Rattle.tile_board.specs.declared.views.View.{View}

-- its tickets differ and are no more than the draws that it made; each of its credits is for one of its tickets, and no
-- two are for the same ticket and slot
pub record IsHandView (view : View) : Type 0 where
  pub different : (ticket : ℕ) → times view.tickets ticket ≤ 1
  pub few : length view.tickets ≤ view.made
  pub drawn : All (λ c. Drew view c.ticket) view.credits
  pub once : (ticket slot : ℕ) → times_credited view ticket slot ≤ 1
