use Rattle.net_numbers.proofs.NumberLaws.{one_list, one_numbering}
use Rattle.net_numbers.proofs.laws.numbers_are_determined.Goals as goal

pub returns : goal.returns
returns c = record { first_cells = one_list; numbered = one_numbering }
