use Rattle.std.proofs.Common.{subst, take, take_all}
use Rattle.net_extract.specs.inside.Anchoring.{IsMarked}
use Rattle.net_extract.proofs.FoundLaws.{none_marked, mark_left_out, mark_more}
use Rattle.net_extract.proofs.anchors.mark.Goals as goal
use Rattle.net_extract.proofs.anchors.mark.Goals.{then-meeting-found, else-meeting-found}
use Rattle.lists.proofs.Reading.{taken_more}

pub loop-meeting-init : goal.loop-meeting-init
loop-meeting-init c = none_marked _

pub loop-meeting-preserved : goal.loop-meeting-preserved
loop-meeting-preserved c =
    let old = c.args.found.now in
    let met = c.args.met.now in
    let k = c.loop-meeting.meeting-index in
    let new = c.loop-meeting.found in
    let meeting = c.meeting-item.result in
    let more = taken_more met k meeting c.loop-meeting-test.true c.meeting-item.is in
    elim c.if-meeting-found.branch [
      | then-meeting-found w ↦ rw (more, w.found-is) (mark_more old new (take k met) c.loop-meeting.invariant meeting w.if-meeting-found.true)
      | else-meeting-found w ↦ rw (more, w.found-is) (mark_left_out old new (take k met) c.loop-meeting.invariant meeting w.if-meeting-found.false)
    ]

pub returns : goal.returns
returns c = subst (λ met. IsMarked c.args.found.now met c.loop-meeting.found) (take_all c.loop-meeting.meeting-index c.args.met.now c.loop-meeting-test.false) c.loop-meeting.invariant
