use Rattle.half_boxes.proofs.TouchLaws.{all_alike}
use Rattle.half_boxes.proofs.ranks.ranked.Goals as goal

pub returns-clause-some : goal.returns-clause-some
returns-clause-some c =
    let columns = rw c.in-Some.is at c.in_ok-columns.ensures.some in
    let rows = rw c.in-Some-2.is at c.in_ok-rows.ensures.some in
    all_alike c.as_slice.result.now c.as_slice-2.result.now c.args.boxes.now _
    (rw c.as_slice.ensures.value columns.rising)
    (rw c.as_slice-2.ensures.value rows.rising) c.in_ok-rects.ensures
