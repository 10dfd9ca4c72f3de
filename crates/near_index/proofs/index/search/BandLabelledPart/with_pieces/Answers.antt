use Rattle.near_index.proofs.DistanceLaws.{beyond_hull}
use Rattle.near_index.proofs.IndexLaws.{all_of}
use Rattle.near_index.proofs.index.search.BandLabelledPart.with_pieces.Goals as goal

pub returns-then-is_settled : goal.returns-then-is_settled
returns-then-is_settled c = rw (← c.self.view_is)
    (c.is_settled.ensures c.if-is_settled.true (all_of c.self.inside.leaves.items) c.args.cell
    (beyond_hull (all_of c.self.inside.leaves.items) c.args.cell c.self.inside.hull c.distance.result c.self.invariant.round c.distance.ensures) c.self.invariant.labelled)
