-- what contracts see of boards and hands
use Rattle.std.specs.Prelude.{◌≡◌}
use Rattle.tile_board.specs.declared.board.Board.{Board}
use Rattle.tile_board.specs.declared.board.Hand.{Hand}
use Rattle.tile_board.specs.declared.views.Limits.{Limits}
use Rattle.tile_board.specs.declared.views.View.{View}

-- what the board is made for
abbrev pub limits_of : Board → Limits
limits_of board = board.limits

-- what the hand has done and may still do
abbrev pub view_of : Hand → View
view_of hand = hand.seat.me.0

-- the hand was made by this board
abbrev pub BelongsTo : Board → Hand → Type 0
BelongsTo board hand = hand.seat.table_id ≡ board.table.shared.table_id
