use Rattle.std.proofs.Common.{refl}
use Rattle.lists.proofs.Words.{get_or_default}
use Rattle.net_pairs.proofs.CornerLaws.{gains_all, gains_begun, gains_next, gains_same}
use Rattle.net_pairs.proofs.corners.added_up.Goals as goal
use Rattle.net_pairs.proofs.corners.added_up.Goals.{then-are_of_one_place, else-are_of_one_place+in_ok-push_gaining}

pub loop-corner-init : goal.loop-corner-init
loop-corner-init c = rw c.new-corners.ensures.items (gains_begun _ _ refl)

pub loop-corner-preserved : goal.loop-corner-preserved
loop-corner-preserved c =
    let small = c.loop-corner-test.true in
    let is = get_or_default _ _ _ _ small in
    elim c.if-are_of_one_place.branch [
      | then-are_of_one_place w ↦ rw (w.corners-is, w.last-is) (gains_same _ _ _ _ c.loop-corner.invariant _ small is (c.are_of_one_place.ensures.0 w.if-are_of_one_place.true))
      | else-are_of_one_place+in_ok-push_gaining w ↦ rw (w.corners-is, w.last-is) (gains_next _ _ _ _ c.loop-corner.invariant _ small is _ w.in_ok-push_gaining.ensures)
    ]

pub returns : goal.returns
returns c = gains_all _ _ _ _ c.loop-corner.invariant c.push_gaining-2.new.corners.items c.loop-corner-test.false c.in_ok-push_gaining-2.ensures
