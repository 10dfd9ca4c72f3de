use Rattle.tile_board.proofs.BoundLaws.{credited_once}
use Rattle.tile_board.proofs.laws.credits_are_single.Goals as goal

pub returns : goal.returns
returns c limits s sound = credited_once limits s sound
