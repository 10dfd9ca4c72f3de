use Rattle.ring_test.proofs.RingLaws.{first_corner, last_beside, next_beside, number_round, numbers_once, round_number, second_corner}
use Rattle.ring_test.proofs.laws.rings_go_round.Goals as goal

pub returns-clause-round : goal.returns-clause-round
returns-clause-round c hole h some = (λ is. round_number hole some h is, λ n. number_round hole some h n.0 n.1 n.2)

pub returns-clause-once : goal.returns-clause-once
returns-clause-once c hole k l some is also same = numbers_once hole some k l is also same

pub returns-clause-neighbours : goal.returns-clause-neighbours
returns-clause-neighbours c hole k some is next = next_beside hole some k is

pub returns-clause-closed : goal.returns-clause-closed
returns-clause-closed c hole some = last_beside hole some

pub returns-clause-lower_left : goal.returns-clause-lower_left
returns-clause-lower_left c hole some = first_corner hole some

pub returns-clause-lower_right : goal.returns-clause-lower_right
returns-clause-lower_right c hole some = second_corner hole some
