use Rattle.fault_model.specs.FaultNames.{IsInFootprint}
use Rattle.half_boxes.specs.HalfBoxes.{IsInBoxes}
use Rattle.ring_test.specs.Rings.{HasSome, hole_of}
use Rattle.ring_test.proofs.AnchorLaws.{arc_of_island, one_arc_spares_less}
use Rattle.ring_test.proofs.laws.one_arc_spares.Goals as goal

pub returns : goal.returns
returns c island near reach s centre anchored same arc spared within =
    let hole = hole_of reach in
    let some : HasSome hole = record { across = reach.columns.within.some; up = reach.rows.within.some } in
    one_arc_spares_less island anchored hole some (arc_of_island island anchored hole (IsInBoxes near) some same arc) spared (IsInFootprint centre s)
    (λ h hit. let has = within h hit in (has.across, has.up))
