use Rattle.std.proofs.Common.{◌++◌, ◌∷◌, [], map, take, take_all, ap, sym, ◌∙◌}
use Rattle.lists.proofs.Words.{map-append, map_more}
use Rattle.rect_cover.specs.inside.PieceBoxes.{box_value, rect_value}
use Rattle.rect_cover.proofs.pieces.find_rects.Goals as goal

pub loop-piece-init : goal.loop-piece-init
loop-piece-init c = ap (map rect_value) c.in_ok-rects.ensures.items

pub rect-requires-clause-some : goal.rect-requires-clause-some
rect-requires-clause-some c = c.requires.some c.loop-piece.piece-index _ c.loop-piece-test.true

pub rect-requires-clause-within : goal.rect-requires-clause-within
rect-requires-clause-within c = c.requires.within c.loop-piece.piece-index _ c.loop-piece-test.true

pub loop-piece-preserved : goal.loop-piece-preserved
loop-piece-preserved c =
    let so_far = map box_value (take c.loop-piece.piece-index c.args.boxes.now) in
    ap (map rect_value) c.in_ok-push.ensures.items ∙ map-append rect_value c.loop-piece.rects.items (c.rect.result ∷ [])
    ∙ ap (λ l. l ++ rect_value c.rect.result ∷ []) c.loop-piece.invariant ∙ ap (λ box. so_far ++ box ∷ []) c.rect.ensures
    ∙ sym (map_more box_value c.args.boxes.now c.loop-piece.piece-index _ c.loop-piece-test.true)

pub returns : goal.returns
returns c = c.loop-piece.invariant ∙ ap (map box_value) (take_all c.loop-piece.piece-index c.args.boxes.now c.loop-piece-test.false)
