use Rattle.tile_board.proofs.SumLaws.{summed}
use Rattle.tile_board.proofs.laws.all_tickets_are_summed.Goals as goal

pub returns : goal.returns
returns c limits v slot amount facts all each = summed limits v slot amount facts all each
