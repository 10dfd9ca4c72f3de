use Rattle.std.proofs.Common.{ℕ, ◌≡◌, ◌<◌, ◌+◌, get_or}
use Rattle.std.specs.Slots.{slots_items}
use Rattle.tile_board.proofs.board.read_totals.Given as goal

-- the totals so far are the words behind the first
abbrev pub invariant-loop-slot : goal.invariant-loop-slot
invariant-loop-slot l = (k : ℕ) → k < l.slot → get_or l.totals k 0 ≡ get_or (slots_items l.closed.words) (k + 1) 0
