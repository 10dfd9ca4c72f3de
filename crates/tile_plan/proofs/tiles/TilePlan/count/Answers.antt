use Rattle.tile_plan.proofs.TileLaws.{tiles_some}
use Rattle.tile_plan.proofs.tiles.TilePlan.count.Goals as goal

pub returns-clause-some : goal.returns-clause-some
returns-clause-some c = tiles_some c.args.self.now
