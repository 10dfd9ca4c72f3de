-- what a board may be made for
use Rattle.std.specs.Prelude.{◌*◌, ◌^◌, ◌<◌, ◌≤◌}
use Rattle.tile_board.specs.declared.views.Limits.{Limits}
use Rattle.tile_board.specs.declared.views.TheConstants.{MOST_DRAWS, MOST_SLOTS}

-- there are some slots and draws, and not too many, and the cap for each ticket makes a total that fits
pub record AreInRange (limits : Limits) : Type 0 where
  pub some_slots : 1 ≤ limits.slots
  pub few_slots : limits.slots ≤ MOST_SLOTS
  pub some_draws : 1 ≤ limits.draws
  pub few_draws : limits.draws ≤ MOST_DRAWS
  pub totals_fit : limits.tickets * limits.cap < 2 ^ 63
