use Rattle.std.proofs.Common.{Bool, IsTrue, ◌↔◌}
use Rattle.lists.proofs.Words.{IfOk-weaker}
use Rattle.half_boxes.specs.HalfBoxes.{IsInBoxes}
use Rattle.ring_test.specs.Rings.{HasOneArc, hole_of}
use Rattle.open_grid.specs.inside.ZoneSteps.{IsToldOf}
use Rattle.open_grid.specs.declared.looked.Told.TheVariants.{Never}
use Rattle.open_grid.proofs.ArcLaws.{one_arc_never}
use Rattle.open_grid.proofs.arcs.is_spared.Goals as goal

pub returns : goal.returns
returns c island stands =
    let reach = c.reach_of-reach.result in
    let near = c.args.looked.now.near in
    IfOk-weaker c.boxes_have_one_arc.result (λ (answer : Bool). IsTrue answer ↔ HasOneArc (hole_of reach) (IsInBoxes near))
    (λ (answer : Bool). IsTrue answer → IsToldOf c.args.zone c.args.side island Never)
    (λ (answer : Bool) tells t. one_arc_never c.args.zone c.args.side c.args.looked.now island stands reach c.reach_of-reach.ensures c.one_arc_spares.ensures
    (rw c.as_slice.ensures at (c.are_outside.ensures c.if-not-are_outside.false)) (tells.0 t))
    (rw c.as_slice-3.ensures at c.boxes_have_one_arc.ensures)
