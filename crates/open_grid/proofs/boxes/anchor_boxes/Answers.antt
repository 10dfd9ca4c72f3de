use Rattle.std.proofs.Common.{subst, take_all}
use Rattle.lists.proofs.Pairing.{AllZip-more}
use Rattle.fault_model.specs.FaultNames.{IslandLists}
use Rattle.fault_model.specs.declared.island.Spot.{Spot}
use Rattle.open_grid.specs.inside.ZoneNeeds.{HaveAnchorBoxes, IsHullOf}
use Rattle.open_grid.proofs.boxes.anchor_boxes.Goals as goal

pub loop-spot-init : goal.loop-spot-init
loop-spot-init c = rw c.in_ok-hulls.ensures.items tt

pub loop-spot-preserved : goal.loop-spot-preserved
loop-spot-preserved c =
    rw c.in_ok-push.ensures.items
    (AllZip-more (λ (spot : Spot). IsHullOf spot.rects) c.as_slice-spots.result.now c.loop-spot.hulls.items c.loop-spot.spot-index c.spot-item.result c.hull_of.result c.loop-spot-test.true
    c.spot-item.is c.loop-spot.invariant c.hull_of.ensures)

pub returns : goal.returns
returns c =
    let seen : IslandLists = record { pieces = c.island.inside.pieces; anchors = c.island.inside.anchors } in
    let hulls = rw (take_all c.loop-spot.spot-index c.as_slice-spots.result.now c.loop-spot-test.false, c.as_slice-spots.ensures) at c.loop-spot.invariant in
    rw c.from_vec.ensures (subst (λ i. HaveAnchorBoxes i c.loop-spot.hulls.items) c.island.view_is hulls)
