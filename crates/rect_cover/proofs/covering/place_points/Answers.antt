use Rattle.std.proofs.Common.{[], ◌∷◌, ◌++◌, map, take, take_all, sym, ap, ◌∙◌}
use Rattle.lists.proofs.Words.{map_more}
use Rattle.rect_cover.specs.Coverings.{placed_at}
use Rattle.rect_cover.proofs.covering.place_points.Goals as goal

pub place_point-requires : goal.place_point-requires
place_point-requires c = c.requires c.loop-point.point-index _ c.loop-point-test.true

pub loop-point-preserved : goal.loop-point-preserved
loop-point-preserved c =
    let moved = placed_at c.args.placed.now in
    let so_far = map moved (take c.loop-point.point-index c.args.points.now) in
    c.in_ok-push.ensures.items ∙ ap (λ l. l ++ c.place_point.result ∷ []) c.loop-point.invariant ∙ ap (λ p. so_far ++ p ∷ []) c.place_point.ensures
    ∙ sym (map_more moved c.args.points.now c.loop-point.point-index _ c.loop-point-test.true)

pub loop-point-init : goal.loop-point-init
loop-point-init c = c.in_ok-moved.ensures.items

pub returns : goal.returns
returns c = c.loop-point.invariant ∙ ap (map (placed_at c.args.placed.now)) (take_all c.loop-point.point-index c.args.points.now c.loop-point-test.false)
