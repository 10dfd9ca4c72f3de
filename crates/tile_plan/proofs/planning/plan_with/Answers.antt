use Rattle.tile_plan.proofs.DoublingLaws.{doubles, tiles_at, too_many}
use Rattle.tile_plan.proofs.planning.plan_with.Goals as goal

pub returns-then-columns-rows-gt-MOST_TILES-clause-none : goal.returns-then-columns-rows-gt-MOST_TILES-clause-none
returns-then-columns-rows-gt-MOST_TILES-clause-none c =
    too_many c.args.window c.args.edge c.tiles_along-columns.result c.tiles_along-rows.result
    (tiles_at c.args.window.x0 c.args.window.x1 c.tiles_along-columns.ensures.tiles c.columns.ensures.low c.columns.ensures.high)
    (tiles_at c.args.window.y0 c.args.window.y1 c.tiles_along-rows.ensures.tiles c.rows.ensures.low c.rows.ensures.high) c.if-columns-rows-gt-MOST_TILES.true

pub returns-then-columns-rows-gt-MOST_TILES-clause-doubles : goal.returns-then-columns-rows-gt-MOST_TILES-clause-doubles
returns-then-columns-rows-gt-MOST_TILES-clause-doubles c =
    doubles c.args.window c.args.edge c.tiles_along-columns.result c.tiles_along-rows.result
    (tiles_at c.args.window.x0 c.args.window.x1 c.tiles_along-columns.ensures.tiles c.columns.ensures.low c.columns.ensures.high)
    (tiles_at c.args.window.y0 c.args.window.y1 c.tiles_along-rows.ensures.tiles c.rows.ensures.low c.rows.ensures.high) c.if-columns-rows-gt-MOST_TILES.true
