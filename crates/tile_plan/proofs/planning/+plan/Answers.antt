use Rattle.tile_plan.proofs.DoublingLaws.{doubled_once_more, plan_is}
use Rattle.tile_plan.proofs.planning.+plan.Goals as goal

pub returns-in-Some-clause-edge : goal.returns-in-Some-clause-edge
returns-in-Some-clause-edge t c = plan_is c.args.window c.args.edge c.in-Some.plan c.in-Some.ensures.window c.in-Some.ensures.edge

pub returns-in-None-clause-edge : goal.returns-in-None-clause-edge
returns-in-None-clause-edge t c = doubled_once_more c.args.window c.args.edge c.plan.result.edge c.in-None.ensures.none c.plan.ensures.edge
