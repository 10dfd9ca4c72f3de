use Rattle.critarea_core.proofs.laws.ProbeLaws.{one_each, short_of_radius, short_of_side}
use Rattle.critarea_core.proofs.laws.second_within.Goals as goal

pub returns-clause-each : goal.returns-clause-each
returns-clause-each c = one_each

pub returns-clause-radii : goal.returns-clause-radii
returns-clause-radii c subject metal r cell told item is at = short_of_radius subject cell told is metal item at r

pub returns-clause-sides : goal.returns-clause-sides
returns-clause-sides c subject metal s cell told item is at some = short_of_side subject cell told is metal item at s some
