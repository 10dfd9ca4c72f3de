use Rattle.std.proofs.Common.{arith}
use Rattle.layer_map.proofs.FindLaws.{found, none_found}
use Rattle.layer_map.proofs.PairLaws.{is_pair, not_numbers, not_two}
use Rattle.layer_map.proofs.layer_items.pair_in.Goals as goal

pub returns-then-numbers-ne2 : goal.returns-then-numbers-ne2
returns-then-numbers-ne2 c = not_two c.args.numbers.now c.if-numbers-ne2.true

pub returns-in-None : goal.returns-in-None
returns-in-None c = not_numbers c.args.numbers.now 0 c.index-numbers-0.result (omega arith) c.index-numbers-0.is (none_found c.in-None.ensures)

pub returns-in-None-pair_number : goal.returns-in-None-pair_number
returns-in-None-pair_number c = not_numbers c.args.numbers.now 1 c.index-numbers-1.result (omega arith) c.index-numbers-1.is (none_found c.in-None-pair_number.ensures)

pub returns-in-Some-pair_number : goal.returns-in-Some-pair_number
returns-in-Some-pair_number c =
    is_pair c.args.numbers.now c.index-numbers-0.result c.index-numbers-1.result _ _ c.if-numbers-ne2.false c.index-numbers-0.is c.index-numbers-1.is (found c.in-Some.ensures)
    (found c.in-Some-pair_number.ensures)
