use Rattle.tile_board.proofs.BoundLaws.{total_at_most}
use Rattle.tile_board.proofs.laws.totals_are_bounded.Goals as goal

pub returns : goal.returns
returns c limits s sound = total_at_most limits s sound
