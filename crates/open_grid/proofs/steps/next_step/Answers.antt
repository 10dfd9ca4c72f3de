use Rattle.std.proofs.Common.{arith, refl, ◌/◌}
use Rattle.geo_core.specs.declared.axis.Axis.TheVariants.{X, Y}
use Rattle.open_grid.proofs.ChangeLaws.{middle_change}
use Rattle.open_grid.proofs.steps.next_step.Goals as goal

pub returns-then-prefers_columns : goal.returns-then-prefers_columns
returns-then-prefers_columns c =
    let places = c.in-Some.columns in
    let told = rw c.in-Some.is at c.in_ok-columns.ensures in
    let count = places.ok.0 in
    let some = c.if-prefers_columns.ensures.columns refl in
    middle_change X c.args.zone c.args.side c.args.looked.now places.items (c.len-then-prefers_columns.result / 2) c.index.result.now told.0 told.1
    (omega (arith, c.len-then-prefers_columns.ensures)) (omega (arith, c.len.ensures)) c.index.ensures

pub returns : goal.returns
returns c =
    let places = c.in-Some-2.rows in
    let told = rw c.in-Some-2.is at c.in_ok-rows.ensures in
    let count = places.ok.0 in
    let some = c.if-prefers_columns.ensures.rows refl in
    middle_change Y c.args.zone c.args.side c.args.looked.now places.items (c.len-3.result / 2) c.index-2.result.now told.0 told.1
    (omega (arith, c.len-3.ensures)) (omega (arith, c.len-2.ensures)) c.index-2.ensures
