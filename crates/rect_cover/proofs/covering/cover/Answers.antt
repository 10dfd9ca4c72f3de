use Rattle.std.proofs.Common.{ap, subst, sym, ◌∙◌, map, All}
use Rattle.geo_core.specs.Plane.{IsInRange}
use Rattle.library_model.specs.Points.{HasItsPoints}
use Rattle.rect_cover.specs.Coverings.{placed_at}
use Rattle.rect_cover.proofs.PlacedLaws.{its_points, its_range, all_before_map, points_kept, shape_comes}
use Rattle.rect_cover.proofs.covering.cover.Goals as goal

pub place_points-requires : goal.place_points-requires
place_points-requires c =
    let structures = c.args.library.now.structures in
    let placed = c.args.placed.now in
    all_before_map IsInRange (placed_at placed) c.as_slice.result.now
    (subst (λ l. All IsInRange (map (placed_at placed) l)) (sym c.as_slice.ensures) (its_range structures placed c.requires.placed c.shape_of-shape.result.now c.shape_of-shape.ensures))

pub cover_shape-requires-clause-points : goal.cover_shape-requires-clause-points
cover_shape-requires-clause-points c =
    let placed = c.args.placed.now in
    let shape = c.shape_of-shape.result.now in
    subst (HasItsPoints shape.kind) (sym (c.as_slice-2.ensures.value ∙ c.in_ok-points.ensures ∙ ap (map (placed_at placed)) c.as_slice.ensures))
    (points_kept (placed_at placed) shape.points shape.kind (its_points c.args.library.now.structures placed c.requires.placed shape c.shape_of-shape.ensures))

pub cover_shape-requires-clause-in_range : goal.cover_shape-requires-clause-in_range
cover_shape-requires-clause-in_range c =
    let placed = c.args.placed.now in
    subst (All IsInRange) (sym (c.as_slice-2.ensures.value ∙ c.in_ok-points.ensures ∙ ap (map (placed_at placed)) c.as_slice.ensures))
    (its_range c.args.library.now.structures placed c.requires.placed c.shape_of-shape.result.now c.shape_of-shape.ensures)

pub returns : goal.returns
returns c =
    let placed = c.args.placed.now in
    shape_comes c.args.library.now.structures placed c.shape_of-shape.result.now c.shape_of-shape.ensures c.cover_shape.result _
    (c.as_slice-2.ensures.value ∙ c.in_ok-points.ensures ∙ ap (map (placed_at placed)) c.as_slice.ensures) c.cover_shape.ensures
