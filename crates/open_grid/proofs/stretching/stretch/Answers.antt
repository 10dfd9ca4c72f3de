use Rattle.std.proofs.Common.{◌∙◌, sym, subst}
use Rattle.geo_core.specs.declared.axis.Axis.{Axis}
use Rattle.open_grid.specs.inside.ZoneSteps.{IsStretched}
use Rattle.open_grid.proofs.CellLaws.{along_columns, along_rows}
use Rattle.open_grid.proofs.stretching.stretch.Goals as goal

pub returns-in-X : goal.returns-in-X
returns-in-X c =
    let of = c.of.ensures in
    subst (λ (axis : Axis). IsStretched axis c.args.zone c.args.line c.of.result) (sym c.in-X.is)
    (along_columns c.args.zone c.args.line c.of.result (of.left ∙ c.columns.ensures.low) (of.right ∙ c.columns.ensures.high) (of.bottom ∙ c.rows.ensures.low) (of.top ∙ c.rows.ensures.high))

pub returns-in-Y : goal.returns-in-Y
returns-in-Y c =
    let of = c.of-in-Y.ensures in
    subst (λ (axis : Axis). IsStretched axis c.args.zone c.args.line c.of-in-Y.result) (sym c.in-Y.is)
    (along_rows c.args.zone c.args.line c.of-in-Y.result (of.left ∙ c.columns-in-Y.ensures.low) (of.right ∙ c.columns-in-Y.ensures.high) (of.bottom ∙ c.rows-in-Y.ensures.low)
    (of.top ∙ c.rows-in-Y.ensures.high))
