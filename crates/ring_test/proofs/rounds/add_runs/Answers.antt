use Rattle.ring_test.specs.Rings.{hole_of}
use Rattle.ring_test.proofs.SideLaws.{box_has_some, four_added}
use Rattle.ring_test.proofs.rounds.add_runs.Goals as goal

pub returns : goal.returns
returns c = λ k. four_added (hole_of c.args.hole) (box_has_some c.args.hole) c.args.one k _ _ _ _ _ _ _ _ _ (c.below.ensures k) (c.on_right.ensures k) (c.above.ensures k) (c.on_left.ensures k)
    (c.in_ok-add.ensures k) (c.in_ok-add-2.ensures k) (c.in_ok-add-3.ensures k) (c.in_ok-add-4.ensures k)
