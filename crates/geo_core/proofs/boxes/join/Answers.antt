use Rattle.geo_core.proofs.RectLaws.{HasSides, sides_of, joined}
use Rattle.geo_core.proofs.boxes.join.Goals as goal

pub returns : goal.returns
returns c =
    let sides : HasSides c.of.result c.join.result c.join-2.result = record { left = c.of.ensures.left; right = c.of.ensures.right; bottom = c.of.ensures.bottom; top = c.of.ensures.top } in
    joined (sides_of c.args.a c.columns.result c.rows.result c.columns.ensures.low c.columns.ensures.high c.rows.ensures.low c.rows.ensures.high)
    (sides_of c.args.b c.columns-2.result c.rows-2.result c.columns-2.ensures.low c.columns-2.ensures.high c.rows-2.ensures.low c.rows-2.ensures.high)
    sides c.join.ensures c.join-2.ensures
