use Rattle.std.proofs.Common.{arith}
use Rattle.lists.proofs.Words.{ints}
use Rattle.tile_plan.proofs.TileLaws.{first_is_greatest, room_of_all}
use Rattle.tile_plan.proofs.tiles.TilePlan.cap.Goals as goal

pub returns-clause-greatest : goal.returns-clause-greatest
returns-clause-greatest c =
    let across = c.tile-first.result.across.some in let up = c.tile-first.result.up.some in
    first_is_greatest c.args.self.now c.tile-first.result c.tile-first.ensures c.from.result c.from-2.result (omega (arith, ints)) (omega (arith, ints))

pub returns-clause-product : goal.returns-clause-product
returns-clause-product c =
    let across = c.tile-first.result.across.some in let up = c.tile-first.result.up.some in
    room_of_all c.args.self.now c.tile-first.result c.tile-first.ensures c.from.result c.from-2.result (omega (arith, ints)) (omega (arith, ints))
