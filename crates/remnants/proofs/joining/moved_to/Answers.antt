use Rattle.std.proofs.Common.{◌<◌, get_or, length, refl, take, take_all}
use Rattle.lists.proofs.Words.{take_more, slice_get-get_or, All-get_or}
use Rattle.remnants.specs.declared.parts.Mark.{Mark}
use Rattle.remnants.proofs.LeaderLaws.{none_moved, moved_more, moved_once}
use Rattle.remnants.proofs.joining.moved_to.Goals as goal

pub loop-mark-init : goal.loop-mark-init
loop-mark-init c = rw c.in_ok-moved.ensures.items (none_moved c.args.leaders.now)

pub loop-mark-preserved : goal.loop-mark-preserved
loop-mark-preserved c =
    let marks = c.args.marks.now in
    let leaders = c.args.leaders.now in
    let k = c.loop-mark.mark-index in
    let none : Mark = record { terminal = 0; leader = 0 } in
    let mark = get_or marks k none in
    let small : mark.leader < length leaders = All-get_or (λ (m : Mark). m.leader < length leaders) marks k none c.loop-mark-test.true c.requires in
    let new : Mark = record { terminal = mark.terminal; leader = get_or leaders mark.leader 0 } in
    rw (take_more marks k none c.loop-mark-test.true, c.in_ok-push.ensures.items)
    (moved_more leaders (take k marks) c.loop-mark.moved.items mark new c.loop-mark.invariant (record { same_terminal = refl; moved = slice_get-get_or leaders mark.leader 0 small }))

pub returns : goal.returns
returns c =
    moved_once c.args.leaders.now c.args.marks.now c.loop-mark.moved.items _
    (rw (take_all c.loop-mark.mark-index c.args.marks.now c.loop-mark-test.false) at c.loop-mark.invariant) c.of.ensures
