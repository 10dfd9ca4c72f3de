use Rattle.std.proofs.Common.{ℕ, ◌+◌, ◌-◌, ◌≡◌, refl, subst, length, get_or, take, take_all, arith}
use Rattle.lists.proofs.Words.{take_more, slice_get_read}
use Rattle.touch_sweep.proofs.AcrossSteps.{AreMeetingAmong, none_among, one_meets, one_apart, not_meeting, pair_at, within_second}
use Rattle.touch_sweep.proofs.across.meeting_among.Goals as goal
use Rattle.touch_sweep.proofs.across.meeting_among.Goals.{then-overlaps+in_ok-push, else-overlaps}

pub loop-a-init : goal.loop-a-init
loop-a-init c = rw c.new-met.ensures.items (none_among c.args.first.now c.args.second.now)

pub overflow_sub-place : goal.overflow_sub-place
overflow_sub-place c = (pair_at c.args.first.now c.args.second.now c.args.pairs.now c.requires c.loop-a.a-index c.loop-a-test.true).behind

pub bounds-first-a : goal.bounds-first-a
bounds-first-a c = (pair_at c.args.first.now c.args.second.now c.args.pairs.now c.requires c.loop-a.a-index c.loop-a-test.true).before

pub offset_bounds-first-a : goal.offset_bounds-first-a
offset_bounds-first-a c =
    let at = pair_at c.args.first.now c.args.second.now c.args.pairs.now c.requires c.loop-a.a-index c.loop-a-test.true in
    let small = at.before in
    omega arith

pub bounds-second-place : goal.bounds-second-place
bounds-second-place c =
    let at = pair_at c.args.first.now c.args.second.now c.args.pairs.now c.requires c.loop-a.a-index c.loop-a-test.true in
    within_second c.args.first.now c.args.second.now _ _ at

pub offset_bounds-second-place : goal.offset_bounds-second-place
offset_bounds-second-place c =
    let at = pair_at c.args.first.now c.args.second.now c.args.pairs.now c.requires c.loop-a.a-index c.loop-a-test.true in
    let small = within_second c.args.first.now c.args.second.now _ _ at in
    omega arith

pub loop-a-preserved : goal.loop-a-preserved
loop-a-preserved c =
    let first = c.args.first.now in
    let second = c.args.second.now in
    let pairs = c.args.pairs.now in
    let i = c.loop-a.a-index in
    let pair = get_or pairs i (0, 0) in
    let at = pair_at first second pairs c.requires i c.loop-a-test.true in
    let behind = at.behind in
    let before = at.before in
    let within = within_second first second pair.0 pair.1 at in
    let place : ℕ = pair.1 - length first in
    let place_is : pair.1 ≡ length first + place = omega arith in
    let one_at = slice_get_read first (length first) pair.0 c.index-first-a.result refl before c.index-first-a.is in
    let other_at = slice_get_read second (length second) place c.index-second-place.result refl within c.index-second-place.is in
    let more = take_more pairs i (0, 0) c.loop-a-test.true in
    elim c.if-overlaps.branch [
      | then-overlaps+in_ok-push w ↦ rw (more, w.met-is, w.in_ok-push.ensures.items) (one_meets first second (take i pairs) c.loop-a.met.items c.loop-a.invariant pair.0 pair.1 place place_is
          (record { one = c.index-first-a.result; other = c.index-second-place.result; one_at = one_at; other_at = other_at; overlap = w.if-overlaps.ensures.0 refl }))
      | else-overlaps w ↦ rw (more, w.met-is) (one_apart first second (take i pairs) c.loop-a.met.items c.loop-a.invariant pair.0 pair.1 place place_is
          (not_meeting first second pair.0 place c.index-first-a.result c.index-second-place.result one_at other_at (λ o. let never = w.if-overlaps.ensures.1 o in cc)))
    ]

pub returns : goal.returns
returns c =
    subst (λ ps. AreMeetingAmong c.args.first.now c.args.second.now ps c.loop-a.met.items) (take_all c.loop-a.a-index c.args.pairs.now c.loop-a-test.false) c.loop-a.invariant
