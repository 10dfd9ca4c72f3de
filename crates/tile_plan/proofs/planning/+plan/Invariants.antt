use Rattle.std.proofs.Common.{◌-◌}
use Rattle.tile_plan.proofs.planning.+plan.Given as goal

abbrev pub decreases-plan : goal.decreases-plan
decreases-plan l = 1000000000 - l.edge
