-- what a worker has done at each moment
use Rattle.std.specs.Prelude.{ℕ, ◌+◌, ◌*◌, ◌<◌, ◌≤◌, ◌≡◌, ◌≢◌, All, length, OnOk, Result}
use Rattle.lists.specs.declared.memory.NoMemory.{NoMemory}
use Rattle.tile_board.specs.Counts.{Drew, times_credited}
use Rattle.tile_board.specs.Hands.{limits_of, view_of, BelongsTo}
use Rattle.tile_board.specs.Machine.{fresh}
use Rattle.tile_board.specs.declared.board.Board.{Board}
use Rattle.tile_board.specs.declared.board.Hand.{Hand}
use Rattle.tile_board.specs.declared.views.View.{View}
use Rattle.tile_work.specs.Crediting.{HasCredits, IsMadeFor}

-- each draw has given a ticket so far, and one draw more is left than the tickets that may still come
pub record DrewTickets (tickets : ℕ) (view : View) : Type 0 where
  pub made : view.made ≡ length view.tickets
  pub draws : view.made + view.left ≡ tickets + 1
  pub below : All (λ ticket. ticket < tickets) view.tickets

-- between two tickets: all that were drawn are credited
pub record IsWorking (tickets slots : ℕ) (IsAmount : ℕ → ℕ → ℕ → Type 0) (view : View) : Type 0 where
  pub drew : DrewTickets tickets view
  pub credits : HasCredits slots IsAmount view

-- while a ticket is credited: it is at the slots below a bound, and the tickets before it are at all of them
pub record IsCrediting (tickets slots : ℕ) (IsAmount : ℕ → ℕ → ℕ → Type 0) (ticket bound : ℕ) (view : View) : Type 0 where
  pub drew : DrewTickets tickets view
  pub here : Drew view ticket
  pub others : (t slot : ℕ) → Drew view t → t ≢ ticket → slot < slots → times_credited view t slot ≡ 1
  pub credited : (slot : ℕ) → slot < bound → times_credited view ticket slot ≡ 1
  pub open_still : (slot : ℕ) → bound ≤ slot → times_credited view ticket slot ≡ 0
  pub within : All (λ c. c.slot < slots) view.credits
  pub amounts : All (λ c. IsAmount c.ticket c.slot c.amount) view.credits

-- a hand that was told that no ticket is left, and has credited all of its own
pub record HasWorked (slots : ℕ) (IsAmount : ℕ → ℕ → ℕ → Type 0) (view : View) : Type 0 where
  pub none_left : length view.tickets < view.made
  pub credits : HasCredits slots IsAmount view

-- what some of the workers begin with: a board that is made for the job, and a hand of that board which has done nothing and has
-- the draws of all of them
pub record IsHanded (tickets slots : ℕ) (IsAmount : ℕ → ℕ → ℕ → Type 0) (workers : ℕ) (board : Board) (hand : Hand) : Type 0 where
  pub some_workers : 1 ≤ workers
  pub made_for : IsMadeFor (limits_of board) tickets slots IsAmount
  pub belongs : BelongsTo board hand
  pub unused : view_of hand ≡ fresh (workers * (tickets + 1))

-- what they hand back: a hand of the board with as many draws, made or left. Unless one of them found no memory, all of its
-- tickets are credited, and it was told that none is left
pub record IsHandedBack (tickets slots : ℕ) (IsAmount : ℕ → ℕ → ℕ → Type 0) (workers : ℕ)
    (board : Board) (back : Hand) (outcome : Result (Unit {0}) NoMemory) : Type 0 where
  pub belongs : BelongsTo board back
  pub draws : (view_of back).made + (view_of back).left ≡ workers * (tickets + 1)
  pub worked : OnOk outcome (HasWorked slots IsAmount (view_of back))
