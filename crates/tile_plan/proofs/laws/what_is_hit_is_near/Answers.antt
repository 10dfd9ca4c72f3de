use Rattle.tile_plan.proofs.laws.SeamLaws.{hit_is_near, met_is_near}
use Rattle.tile_plan.proofs.laws.what_is_hit_is_near.Goals as goal

pub returns-clause-hit : goal.returns-clause-hit
returns-clause-hit c = hit_is_near

pub returns-clause-met : goal.returns-clause-met
returns-clause-met c = met_is_near
