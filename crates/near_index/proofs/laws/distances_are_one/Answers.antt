use Rattle.near_index.proofs.DistanceLaws.{greatest_distance, same_distance, some_distance}
use Rattle.near_index.proofs.laws.distances_are_one.Goals as goal

pub returns-clause-some : goal.returns-clause-some
returns-clause-some c = some_distance

pub returns-clause-one : goal.returns-clause-one
returns-clause-one c = same_distance

pub returns-clause-within : goal.returns-clause-within
returns-clause-within c = greatest_distance
