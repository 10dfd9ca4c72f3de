use Rattle.std.proofs.Common.{get_or, refl}
use Rattle.lists.proofs.Words.{All-more, All-nil, Contains-get_or, false≢true}
use Rattle.lists.proofs.Reading.{All-read_all}
use Rattle.remnants.proofs.MeetingLaws.{MeetsAll, all_meet, one_unmarked}
use Rattle.remnants.proofs.marking.are_unmarked.Goals as goal

pub returns-then-have_one_leader : goal.returns-then-have_one_leader
returns-then-have_one_leader c = (λ yes. absurd (false≢true yes), λ u. absurd (c.have_one_leader.ensures c.if-have_one_leader.true u))

pub loop-one-init : goal.loop-one-init
loop-one-init c = All-nil (MeetsAll c.args.marks.now c.args.terminals.now)

pub returns-then-lacks_other : goal.returns-then-lacks_other
returns-then-lacks_other c =
    let terminals = c.args.terminals.now in
    let k = c.loop-one.one-index in
    let lack = c.if-lacks_other.ensures in
    (λ yes. one_unmarked c.args.marks.now terminals (get_or terminals k 0) lack.0 (Contains-get_or terminals k 0 c.loop-one-test.true) lack.1 lack.2 lack.3, λ u. refl)

pub loop-one-preserved : goal.loop-one-preserved
loop-one-preserved c =
    All-more (MeetsAll c.args.marks.now c.args.terminals.now) c.args.terminals.now c.loop-one.one-index 0 c.loop-one-test.true c.loop-one.invariant c.if-lacks_other.ensures

pub returns : goal.returns
returns c =
    let meets = MeetsAll c.args.marks.now c.args.terminals.now in (
      λ yes. absurd (false≢true yes),
      λ u. absurd (all_meet c.args.marks.now c.args.terminals.now (All-read_all meets c.args.terminals.now _ c.loop-one-test.false c.loop-one.invariant) u),
    )
