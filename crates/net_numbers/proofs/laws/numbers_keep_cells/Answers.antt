use Rattle.net_numbers.proofs.NumberLaws.{cells_kept}
use Rattle.net_numbers.proofs.laws.numbers_keep_cells.Goals as goal

pub returns : goal.returns
returns c = λ pieces numbered cells label number cell own is. cells_kept pieces numbered own is cells label number cell
