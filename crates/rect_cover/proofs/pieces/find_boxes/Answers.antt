use Rattle.std.proofs.Common.{w32, to_z, of_z, ◌+◌, ◌<◌, ◌≡◌, ◌++◌, length, drop, map, pos, sym, ap, ◌∙◌, arith, rules}
use Rattle.lists.proofs.Words.{nat_tests, to_z-of_z}
use Rattle.geo_core.specs.declared.plane.Point.{Point}
use Rattle.rect_cover.specs.PathPieces.{box_of, half_width_of, reach_behind, pieces_between}
use Rattle.rect_cover.specs.inside.PieceBoxes.{box_value, knot_of}
use Rattle.rect_cover.proofs.PieceLaws.{pieces_ahead, pieces_begin_at, piece_more, no_piece_behind}
use Rattle.rect_cover.proofs.BoxLaws.{boxes_more, boxes_end}
use Rattle.rect_cover.proofs.pieces.find_boxes.Goals as goal

pub loop-i-init : goal.loop-i-init
loop-i-init c =
    let style = c.args.style in
    let half = half_width_of style in
    let corners = c.args.corners.now in
    let none : Point = record { x = pos 0; y = pos 0 } in
    let some : 0 < length corners = grind (arith, nat_tests) in
    ap (λ boxes. map box_value boxes ++ map (box_of half) (pieces_ahead half (reach_behind style) (knot_of c.first_corner-from.result) ((drop 1 corners)))) c.new-boxes.ensures.items
    ∙ ap (λ knot. map (box_of half) (pieces_ahead half (reach_behind style) knot ((drop 1 corners)))) c.first_corner-from.ensures
    ∙ ap (map (box_of half)) (pieces_begin_at style corners none some)

pub loop-i-preserved : goal.loop-i-preserved
loop-i-preserved c =
    let style = c.args.style in
    let half = half_width_of style in
    let behind = reach_behind style in
    let corners = c.args.corners.now in
    let i = c.loop-i.i in
    let none : Point = record { x = pos 0; y = pos 0 } in
    let from = knot_of c.loop-i.from in
    let to = knot_of c.next_corner-to.result in
    let more = piece_more half behind from to corners i none c.loop-i-test.true c.next_corner-to.ensures in
    let narrow : to_z w32 (of_z w32 c.half_width.result) ≡ c.half_width.result = to_z-of_z w32 c.half_width.result (search rules) in
    let box : box_value c.between.result ≡ box_of half (from, to) = c.between.ensures ∙ ap (λ h. box_of h (from, to)) (narrow ∙ c.half_width.ensures) in
    let ahead = pieces_ahead half behind to (drop (i + 1) corners) in
    let front = ap (λ pieces. map box_value c.loop-i.boxes.items ++ map (box_of half) pieces) (sym more) ∙ c.loop-i.invariant in
    ap (λ boxes. map box_value boxes ++ map (box_of half) ahead) c.in_ok-push.ensures.items
    ∙ boxes_more half (map (box_of half) (pieces_between style corners)) c.loop-i.boxes.items c.between.result (from, to) ahead box front

pub returns : goal.returns
returns c =
    let style = c.args.style in
    let half = half_width_of style in
    let corners = c.args.corners.now in
    boxes_end half _ (map box_value c.loop-i.boxes.items) _ (no_piece_behind half (reach_behind style) (knot_of c.loop-i.from) corners c.loop-i.i c.loop-i-test.false) c.loop-i.invariant
