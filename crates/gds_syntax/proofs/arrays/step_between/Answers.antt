use Rattle.std.proofs.Common.{rules, SFits, w32}
use Rattle.gds_syntax.proofs.StepLaws.{told_step, holds_of_none}
use Rattle.gds_syntax.proofs.arrays.step_between.Goals as goal

pub returns-in_err-across-clause-none : goal.returns-in_err-across-clause-none
returns-in_err-across-clause-none c =
    let from : SFits w32 c.args.from.x = search rules in
    let to : SFits w32 c.args.to.x = search rules in
    holds_of_none c.from_residual.result (λ step leads. c.in_err-across.ensures.none step.0 ((told_step _ _ _ step.0 from to c.ranges.count).1 leads.across))

pub returns-in_err-up-clause-none : goal.returns-in_err-up-clause-none
returns-in_err-up-clause-none c =
    let from : SFits w32 c.args.from.y = search rules in
    let to : SFits w32 c.args.to.y = search rules in
    holds_of_none c.from_residual-in_err-up.result (λ step leads. c.in_err-up.ensures.none step.1 ((told_step _ _ _ step.1 from to c.ranges.count).1 leads.up))
