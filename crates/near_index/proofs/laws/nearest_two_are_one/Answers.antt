use Rattle.near_index.proofs.NearestLaws.{in_any_order, same_two, two_within}
use Rattle.near_index.proofs.laws.nearest_two_are_one.Goals as goal

pub returns-clause-one : goal.returns-clause-one
returns-clause-one c = same_two

pub returns-clause-in_any_order : goal.returns-clause-in_any_order
returns-clause-in_any_order c = in_any_order

pub returns-clause-within : goal.returns-clause-within
returns-clause-within c = λ pieces cell nearest in_layout inside. two_within pieces cell in_layout inside nearest
