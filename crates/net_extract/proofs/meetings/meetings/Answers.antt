use Rattle.std.proofs.Common.{option_to_list, ◌+◌, ◌++◌, ◌∙◌, refl, subst, get_or, length, take, take_all, arith, Option, Some, None}
use Rattle.lists.proofs.Words.{append-nil, take_more, slice_get_read}
use Rattle.net_extract.specs.declared.pieces.ContactPiece.{ContactPiece}
use Rattle.net_extract.proofs.MeetingLaws.{IsFound, AreMetBy, exact_of, none_met, met_more, all_met, meetings_once, pair_within}
use Rattle.net_extract.proofs.meetings.meetings.Goals as goal
use Rattle.net_extract.proofs.meetings.meetings.Goals.{in-Some+in_ok-push, in_default}

pub loop-a-init : goal.loop-a-init
loop-a-init c = rw c.in_ok-contacts.ensures.items (none_met c.args.lower.now c.args.upper.now)

pub bounds-lower-a : goal.bounds-lower-a
bounds-lower-a c =
    let exact = exact_of c.args.lower.now c.args.upper.now c.deref.result.now c.deref-2.result.now c.in_ok-pairs.pairs.items c.deref-a-items.result.now
    (c.deref.ensures.value ∙ c.in_ok-lower_rects.ensures) (c.deref-2.ensures.value ∙ c.in_ok-upper_rects.ensures) c.deref-a-items.ensures.value c.in_ok-pairs.ensures.exact in
    let within = pair_within c.args.lower.now c.args.upper.now c.deref-a-items.result.now exact c.loop-a.a-index c.loop-a-test.true in
    within.0

pub offset_bounds-lower-a : goal.offset_bounds-lower-a
offset_bounds-lower-a c =
    let exact = exact_of c.args.lower.now c.args.upper.now c.deref.result.now c.deref-2.result.now c.in_ok-pairs.pairs.items c.deref-a-items.result.now
    (c.deref.ensures.value ∙ c.in_ok-lower_rects.ensures) (c.deref-2.ensures.value ∙ c.in_ok-upper_rects.ensures) c.deref-a-items.ensures.value c.in_ok-pairs.ensures.exact in
    let within = pair_within c.args.lower.now c.args.upper.now c.deref-a-items.result.now exact c.loop-a.a-index c.loop-a-test.true in
    let small = within.0 in
    omega arith

pub bounds-upper-b : goal.bounds-upper-b
bounds-upper-b c =
    let exact = exact_of c.args.lower.now c.args.upper.now c.deref.result.now c.deref-2.result.now c.in_ok-pairs.pairs.items c.deref-a-items.result.now
    (c.deref.ensures.value ∙ c.in_ok-lower_rects.ensures) (c.deref-2.ensures.value ∙ c.in_ok-upper_rects.ensures) c.deref-a-items.ensures.value c.in_ok-pairs.ensures.exact in
    let within = pair_within c.args.lower.now c.args.upper.now c.deref-a-items.result.now exact c.loop-a.a-index c.loop-a-test.true in
    within.1

pub offset_bounds-upper-b : goal.offset_bounds-upper-b
offset_bounds-upper-b c =
    let exact = exact_of c.args.lower.now c.args.upper.now c.deref.result.now c.deref-2.result.now c.in_ok-pairs.pairs.items c.deref-a-items.result.now
    (c.deref.ensures.value ∙ c.in_ok-lower_rects.ensures) (c.deref-2.ensures.value ∙ c.in_ok-upper_rects.ensures) c.deref-a-items.ensures.value c.in_ok-pairs.ensures.exact in
    let within = pair_within c.args.lower.now c.args.upper.now c.deref-a-items.result.now exact c.loop-a.a-index c.loop-a-test.true in
    let small = within.1 in
    omega arith

pub loop-a-preserved : goal.loop-a-preserved
loop-a-preserved c =
    let lower = c.args.lower.now in
    let upper = c.args.upper.now in
    let pairs = c.deref-a-items.result.now in
    let i = c.loop-a.a-index in
    let old = c.loop-a.contacts.items in
    let pair = get_or pairs i (0, 0) in
    let one = c.index-lower-a.result in
    let other = c.index-upper-b.result in
    let exact = exact_of lower upper c.deref.result.now c.deref-2.result.now c.in_ok-pairs.pairs.items pairs
    (c.deref.ensures.value ∙ c.in_ok-lower_rects.ensures) (c.deref-2.ensures.value ∙ c.in_ok-upper_rects.ensures) c.deref-a-items.ensures.value c.in_ok-pairs.ensures.exact in
    let within = pair_within lower upper pairs exact i c.loop-a-test.true in
    let one_at = slice_get_read lower (length lower) pair.0 one refl within.0 c.index-lower-a.is in
    let other_at = slice_get_read upper (length upper) pair.1 other refl within.1 c.index-upper-b.is in
    let more = take_more pairs i (0, 0) c.loop-a-test.true in
    let next : (found : Option ContactPiece) → IsFound one other found → AreMetBy lower upper (take (i + 1) pairs) (old ++ option_to_list found) =
    λ found is. rw more (met_more lower upper (take i pairs) old c.loop-a.invariant pair.0 pair.1 one other one_at other_at found is) in
    elim c.match-meeting.branch [
      | in-Some+in_ok-push w ↦ rw (w.contacts-is, w.in_ok-push.ensures.items) (next (Some w.in-Some.contact) w.in-Some.ensures)
      | in_default w ↦ rw w.contacts-is (subst (AreMetBy lower upper (take (i + 1) pairs)) (append-nil old) (next None (subst (IsFound one other) w.in_default.is c.meeting.ensures)))
    ]

pub returns-clause-exact : goal.returns-clause-exact
returns-clause-exact c =
    let lower = c.args.lower.now in
    let upper = c.args.upper.now in
    let pairs = c.deref-a-items.result.now in
    let contacts = c.loop-a.contacts.items in
    let exact = exact_of lower upper c.deref.result.now c.deref-2.result.now c.in_ok-pairs.pairs.items pairs
    (c.deref.ensures.value ∙ c.in_ok-lower_rects.ensures) (c.deref-2.ensures.value ∙ c.in_ok-upper_rects.ensures) c.deref-a-items.ensures.value c.in_ok-pairs.ensures.exact in
    meetings_once lower upper contacts _ c.each_once.ensures.same
    (all_met lower upper pairs exact contacts (subst (λ ps. AreMetBy lower upper ps contacts) (take_all c.loop-a.a-index pairs c.loop-a-test.false) c.loop-a.invariant))

pub returns-clause-once : goal.returns-clause-once
returns-clause-once c = c.each_once.ensures.once
