-- what a step of a hand is to the machine
use Rattle.std.specs.Prelude.{ℕ, ◌≡◌}
use Rattle.tile_board.specs.Machine.{BoardState, Event, draw, credit, IsAllowed, after_event, view_at}
use Rattle.tile_board.specs.Sound.{IsSound}
use Rattle.tile_board.specs.declared.views.Credit.{Credit}
use Rattle.tile_board.specs.declared.views.Limits.{Limits}
use Rattle.tile_board.specs.declared.views.View.{View}

-- this event by one of the hands of a sound state, where it may happen and leaves a sound state. The hand's view is the
-- one before and then the one after
pub record IsStep (limits : Limits) (event : ℕ → Event) (before after : View) : Type 0 where
  pub state : BoardState
  pub by : ℕ
  pub sound : IsSound limits state
  pub allowed : IsAllowed limits state (event by)
  pub leaves : IsSound limits (after_event limits state (event by))
  pub had : view_at state by ≡ before
  pub has : view_at (after_event limits state (event by)) by ≡ after

abbrev pub IsDraw : Limits → View → View → Type 0
IsDraw limits before after = IsStep limits draw before after

abbrev pub IsCredit : Limits → Credit → View → View → Type 0
IsCredit limits c before after = IsStep limits (λ by. credit by c) before after
