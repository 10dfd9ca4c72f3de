use Rattle.std.proofs.Common.{take_all}
use Rattle.ring_test.proofs.HoleLaws.{boxes_none}
use Rattle.ring_test.proofs.MergeLaws.{runs_none}
use Rattle.ring_test.specs.Rings.{hole_of}
use Rattle.ring_test.proofs.ToldLaws.{box_added}
use Rattle.ring_test.proofs.rounds.runs_of_boxes.Goals as goal

pub loop-one-init : goal.loop-one-init
loop-one-init c = rw c.new-runs.ensures.items (λ k. (λ r. absurd (runs_none k r), λ (number, on). absurd (boxes_none _ on)))

pub loop-one-preserved : goal.loop-one-preserved
loop-one-preserved c = box_added (hole_of c.args.hole) c.args.boxes.now c.loop-one.one-index c.one-item.result _ _
    c.loop-one-test.true c.one-item.is c.loop-one.invariant c.in_ok-add_runs.ensures

pub returns : goal.returns
returns c = rw (take_all c.loop-one.one-index c.args.boxes.now c.loop-one-test.false) at c.loop-one.invariant
