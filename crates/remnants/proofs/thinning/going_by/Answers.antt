use Rattle.std.proofs.Common.{Contains, get_or}
use Rattle.lists.proofs.Words.{Contains-get_or}
use Rattle.remnants.specs.declared.proposing.StandIn.{StandIn}
use Rattle.remnants.proofs.SpreadLaws.{going_more, stands_still}
use Rattle.remnants.proofs.thinning.going_by.Goals as goal
use Rattle.remnants.proofs.thinning.going_by.Goals.{then-is_right+in_ok-push, else-is_right}

pub loop-pair-preserved : goal.loop-pair-preserved
loop-pair-preserved c =
    let none : StandIn = record { goes = 0; stays = 0 } in
    let proposed = c.args.proposed.now in
    let k = c.loop-pair.pair-index in
    let pair = get_or proposed k none in
    let goes = c.requires pair (Contains-get_or proposed k none c.loop-pair-test.true) in
    elim c.if-is_right.branch [
      | then-is_right+in_ok-push w ↦ rw (w.gone-is, w.in_ok-push.ensures.items)
          (going_more c.args.listed.now (Contains c.args.loose.now) c.args.marks.now c.args.going.now c.loop-pair.gone.items pair goes (c.is_right.ensures w.if-is_right.true) c.loop-pair.invariant)
      | else-is_right w ↦ rw w.gone-is c.loop-pair.invariant
    ]

pub returns : goal.returns
returns c terminal among =
    let is = c.loop-pair.invariant terminal among in
    stands_still c.args.listed.now c.args.listed.now (Contains c.args.loose.now) (Contains c.args.loose.now) c.args.marks.now c.loop-pair.gone.items c.args.going.now terminal
    (λ t h. h) (λ t h. h) (λ t h. (c.loop-pair.invariant t h).0) is.1
