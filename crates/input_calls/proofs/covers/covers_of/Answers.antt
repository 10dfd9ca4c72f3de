use Rattle.rect_cover.proofs.laws.RouteEnds.{placed_along, well_placed}
use Rattle.input_calls.proofs.covers.covers_of.Goals as goal

pub cover_all-requires-clause-placed : goal.cover_all-requires-clause-placed
cover_all-requires-clause-placed g c κs within =
    let structures = c.args.library.now.structures in
    let are = c.in-Ok.ensures.placed in
    let along = placed_along structures _ _ c.in-Ok.placed.items are in
    rw c.as_slice.ensures.value (well_placed structures _ c.requires.pointed are.routes c.in-Ok.placed.items along)
