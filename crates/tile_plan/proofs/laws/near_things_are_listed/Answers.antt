use Rattle.tile_plan.proofs.laws.SeamLaws.{exactly_near, near_in_any_order}
use Rattle.tile_plan.proofs.laws.near_things_are_listed.Goals as goal

pub returns-clause-in_order : goal.returns-clause-in_order
returns-clause-in_order g c things found tile reach = exactly_near g.T.Rectangular.rect_of tile reach things found

pub returns-clause-in_any_order : goal.returns-clause-in_any_order
returns-clause-in_any_order g c things others found tile reach = near_in_any_order g.T.Rectangular.rect_of tile reach things others found
