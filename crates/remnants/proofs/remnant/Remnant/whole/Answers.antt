use Rattle.std.proofs.Common.{◌↔◌, [], subst, sym}
use Rattle.fault_model.specs.FaultNames.{IslandLists}
use Rattle.half_boxes.specs.HalfBoxes.{HasHalf}
use Rattle.half_boxes.specs.declared.boxes.HalfBox.{HalfBox}
use Rattle.severing.specs.Severing.{IsSevered}
use Rattle.remnants.specs.Remnants.{RemnantLists, IsSplit}
use Rattle.remnants.proofs.IslandLaws.{whole_parts, none_joined}
use Rattle.remnants.proofs.PieceLaws.{island_boxes}
use Rattle.remnants.proofs.remnant.Remnant.whole.Goals as goal

pub new-requires : goal.new-requires
new-requires c = rw (c.new-fixed.ensures.items, c.none-marks.ensures) (none_joined c.in_ok-loose.loose.items c.in_ok-terminals.terminals.items)

pub returns : goal.returns
returns c =
    let inside = c.island.inside in
    let island : IslandLists = record { pieces = inside.pieces; anchors = inside.anchors } in
    let first = rw (c.new-none.ensures.items, c.as_slice.ensures) at c.in_ok-pieces.ensures in
    let second = rw c.as_slice-anchors.ensures at c.in_ok-loose.ensures in
    let boxes = island_boxes island c.in_ok-pieces.pieces.items c.in_ok-loose.loose.items first second in
    let all = rw c.as_slice-anchors.ensures at c.in_ok-terminals.ensures in
    let made = rw (c.new-fixed.ensures.items, c.none-marks.ensures) at c.new.ensures in
    subst (λ (r : RemnantLists). (removed : HalfBox) → IsSplit r removed ↔ IsSevered c.args.island.now (HasHalf removed)) (sym made)
    (subst (λ (i : IslandLists). (removed : HalfBox) → IsSplit
    (record { fixed = []; loose = c.in_ok-loose.loose.items; marks = []; terminals = c.in_ok-terminals.terminals.items }) removed ↔ IsSevered i (HasHalf removed))
    c.island.view_is (λ removed. whole_parts island c.island.invariant c.in_ok-loose.loose.items boxes c.in_ok-terminals.terminals.items all removed))
