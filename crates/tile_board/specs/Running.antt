-- the running board as a state of the machine
use Rattle.std.specs.Prelude.{ℕ, List, drop, slice_index}
use Rattle.tile_board.specs.Machine.{BoardState}
use Rattle.tile_board.specs.declared.views.View.{View}

-- word 0 is the number that is drawn next, and the totals are the others, in order
abbrev pub state_of : List ℕ → List View → BoardState
state_of words views = record { next = slice_index words 0; totals = drop 1 words; views = views }
