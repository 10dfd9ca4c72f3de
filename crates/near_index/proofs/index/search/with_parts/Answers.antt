use Rattle.near_index.proofs.NearestLaws.{adds_halves}
use Rattle.near_index.proofs.index.search.with_parts.Goals as goal

pub returns : goal.returns
returns g c =
    adds_halves g.P.Part.pieces_of c.args.cell c.split_at.result.0.now c.split_at.result.1.now c.args.parts.now c.nearest_part.result c.args.nearest c.with_parts_in_order-found.result
    c.with_parts_in_order.result c.split_at.ensures.front c.split_at.ensures.back c.with_parts_in_order-found.ensures c.with_parts_in_order.ensures
