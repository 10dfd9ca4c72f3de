use Rattle.open_grid.specs.inside.Wires.{SpansBoth}
use Rattle.open_grid.proofs.WireCellLaws.{gains_none, gains_one, none_across, none_up, spanning_rect}
use Rattle.open_grid.proofs.wires.add_spanning.Goals as goal

pub returns-in_default : goal.returns-in_default
returns-in_default c =
    gains_none _ c.args.cells.now.items
    (none_across c.args.window c.args.columns.low c.args.columns.high c.args.rows.low c.args.rows.high c.args.side c.columns.result c.columns.ensures.low c.columns.ensures.high c.in_default.ensures.none)

pub returns-in_default-places : goal.returns-in_default-places
returns-in_default-places c =
    gains_none _ c.args.cells.now.items
    (none_up c.args.window c.args.columns.low c.args.columns.high c.args.rows.low c.args.rows.high c.args.side c.rows.result c.rows.ensures.low c.rows.ensures.high c.in_default-places.ensures.none)

pub returns : goal.returns
returns c =
    let spans = SpansBoth c.args.window c.args.columns.low c.args.columns.high c.args.rows.low c.args.rows.high c.args.side in
    rw c.in_ok-push.ensures.items (gains_one spans c.args.cells.now.items c.of.result
    (spanning_rect c.args.window c.args.columns.low c.args.columns.high c.args.rows.low c.args.rows.high c.args.side c.of.result c.columns.result c.rows.result c.in-Some.across c.in-Some-places.up
    c.columns.ensures.low c.columns.ensures.high c.rows.ensures.low c.rows.ensures.high c.in-Some.ensures.some c.in-Some-places.ensures.some
    c.of.ensures.left c.of.ensures.right c.of.ensures.bottom c.of.ensures.top))
