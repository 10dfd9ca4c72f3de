use Rattle.tile_board.specs.Hands.{view_of, BelongsTo}
use Rattle.tile_rows.proofs.board_threads.work.Given as goal

abbrev pub invariant-loop-hand : goal.invariant-loop-hand
invariant-loop-hand l = BelongsTo l.board l.hand

-- each round uses a draw up
abbrev pub decreases-loop-hand : goal.decreases-loop-hand
decreases-loop-hand l = (view_of l.hand).left
