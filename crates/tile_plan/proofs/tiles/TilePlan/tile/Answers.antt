use Rattle.tile_plan.proofs.TileLaws.{begins_across, begins_up}
use Rattle.tile_plan.proofs.tiles.TilePlan.tile.Goals as goal

pub tile_along-across-requires-clause-begins : goal.tile_along-across-requires-clause-begins
tile_along-across-requires-clause-begins c = rw (c.columns.ensures.low, c.columns.ensures.high) (begins_across c.args.self.now c.args.k c.requires)

pub tile_along-up-requires-clause-begins : goal.tile_along-up-requires-clause-begins
tile_along-up-requires-clause-begins c = rw (c.rows.ensures.low, c.rows.ensures.high) (begins_up c.args.self.now c.args.k c.requires)
