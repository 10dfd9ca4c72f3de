use Rattle.near_index.proofs.NearestLaws.{adds_nothing, adds_part, adds_parts}
use Rattle.near_index.proofs.index.search.with_parts_in_order.Goals as goal

pub loop-part-init : goal.loop-part-init
loop-part-init g c = adds_nothing c.args.cell c.args.nearest

pub loop-part-preserved : goal.loop-part-preserved
loop-part-preserved g c =
    adds_part g.P.Part.pieces_of c.args.cell c.args.parts.now c.loop-part.part-index c.part-item.result c.args.nearest c.loop-part.found c.with_pieces-found.result c.loop-part-test.true c.part-item.is
    c.loop-part.invariant c.with_pieces-found.ensures

pub returns : goal.returns
returns g c = adds_parts g.P.Part.pieces_of c.args.cell c.args.parts.now c.loop-part.part-index c.args.nearest c.loop-part.found c.loop-part-test.false c.loop-part.invariant
