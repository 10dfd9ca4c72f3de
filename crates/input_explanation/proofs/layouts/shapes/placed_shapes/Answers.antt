use Rattle.std.proofs.Common.{option_copied}
use Rattle.map_model.specs.MapNames.{layer_map_of}
use Rattle.rect_cover.proofs.laws.RouteEnds.{placed_along, well_placed}
use Rattle.input_explanation.proofs.layouts.shapes.placed_shapes.Goals as goal

-- what `place` gives is well placed, so that each shape of it can be covered or has a fault
pub shapes_of-requires : goal.shapes_of-requires
shapes_of-requires c =
    let library = c.args.library.now in
    let layer_map = layer_map_of c.args.map.now in
    let are = c.in-Ok.ensures.placed in
    let along = placed_along library.structures layer_map (option_copied c.args.top) c.in-Ok.placed.items are in
    rw c.as_slice.ensures.value (well_placed library.structures layer_map c.requires.pointed are.routes c.in-Ok.placed.items along)
