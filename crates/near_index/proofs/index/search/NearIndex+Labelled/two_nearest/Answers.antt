use Rattle.near_index.proofs.IndexLaws.{all_of}
use Rattle.near_index.proofs.NearestLaws.{nearest_from_none}
use Rattle.near_index.proofs.index.search.NearIndex+Labelled.two_nearest.Goals as goal

pub returns : goal.returns
returns c = rw (← c.self.view_is, ← c.as_slice.ensures.value)
    (nearest_from_none (all_of c.as_slice.result.now) c.args.cell c.nothing.result c.with_parts.result c.nothing.ensures.first c.nothing.ensures.second c.with_parts.ensures)
