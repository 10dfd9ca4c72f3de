use Rattle.std.proofs.Common.{◌++◌, take, take_all}
use Rattle.lists.proofs.Reading.{taken_more}
use Rattle.remnants.proofs.ReleaseLaws.{are_released, none_released, one_gone, one_kept}
use Rattle.remnants.proofs.releasing.released.Goals as goal
use Rattle.remnants.proofs.releasing.released.Goals.{in-Some+in_ok-push, in_default}

pub loop-one-init : goal.loop-one-init
loop-one-init c = rw c.in_ok-released.ensures.items (none_released c.args.listed.now (c.in_ok-boxes.boxes.by_columns.items ++ c.in_ok-boxes.boxes.by_rows.items))

pub loop-one-preserved : goal.loop-one-preserved
loop-one-preserved c =
    let loose = c.args.loose.now in
    let k = c.loop-one.one-index in
    let one = c.one-item.result in
    let listed = c.args.listed.now in
    let boxes = (c.in_ok-boxes.boxes.by_columns.items ++ c.in_ok-boxes.boxes.by_rows.items) in
    let more = taken_more loose k one c.loop-one-test.true c.one-item.is in
    let is = c.release.ensures in
    elim c.match-release.branch [
      | in-Some+in_ok-push w ↦ rw (more, w.released-is, w.in_ok-push.ensures.items) (one_kept listed boxes (take k loose) c.loop-one.released.items one c.loop-one.invariant w.in-Some.it (rw w.in-Some.is at is))
      | in_default w ↦ rw (more, w.released-is) (one_gone listed boxes (take k loose) c.loop-one.released.items one c.loop-one.invariant (rw w.in_default.is at is))
    ]

pub returns : goal.returns
returns c =
    are_released c.args.listed.now (c.in_ok-boxes.boxes.by_columns.items ++ c.in_ok-boxes.boxes.by_rows.items) c.args.loose.now c.loop-one.released.items
    (rw (take_all c.loop-one.one-index c.args.loose.now c.loop-one-test.false) at c.loop-one.invariant) c.in_ok-boxes.ensures
