use Rattle.std.proofs.Common.{sym, ◌∙◌, w16}
use Rattle.lists.proofs.Words.{to_z-of_z}
use Rattle.gds_syntax.proofs.ArrayLaws.{leads_alike}
use Rattle.gds_syntax.proofs.StepLaws.{holds_of_none}
use Rattle.gds_syntax.proofs.arrays.steps_of.Goals as goal

pub returns-in_err-column_step-clause-none : goal.returns-in_err-column_step-clause-none
returns-in_err-column_step-clause-none c =
    let told = sym (to_z-of_z w16 c.args.columns c.ranges.columns ∙ c.requires.columns) in
    holds_of_none c.from_residual.result (λ column_step row_step steps.
    c.in_err-column_step.ensures.none column_step (leads_alike told (sym c.point_of-origin.ensures) (sym c.point_of.ensures) steps.columns))

pub returns-in_err-row_step-clause-none : goal.returns-in_err-row_step-clause-none
returns-in_err-row_step-clause-none c =
    let told = sym (to_z-of_z w16 c.args.rows c.ranges.rows ∙ c.requires.rows) in
    holds_of_none c.from_residual-in_err-row_step.result (λ column_step row_step steps.
    c.in_err-row_step.ensures.none row_step (leads_alike told (sym c.point_of-origin.ensures) (sym c.point_of-2.ensures) steps.rows))

pub returns-clause-steps : goal.returns-clause-steps
returns-clause-steps c =
    let columns = to_z-of_z w16 c.args.columns c.ranges.columns ∙ c.requires.columns in
    let rows = to_z-of_z w16 c.args.rows c.ranges.rows ∙ c.requires.rows in
    record {
      columns = leads_alike columns c.point_of-origin.ensures c.point_of.ensures c.in_ok-column_step.ensures.leads;
      rows = leads_alike rows c.point_of-origin.ensures c.point_of-2.ensures c.in_ok-row_step.ensures.leads;
    }
