use Rattle.std.proofs.Common.{◌<◌, arith, length, get_or, subst}
use Rattle.lists.proofs.Words.{All-contains, All-more, All-nil, Contains-get_or, nat_tests}
use Rattle.lists.proofs.Reading.{All-read_all}
use Rattle.remnants.specs.declared.parts.Mark.{Mark}
use Rattle.remnants.specs.inside.Marking.{IsMarked}
use Rattle.remnants.proofs.MeetingLaws.{mark_of}
use Rattle.remnants.proofs.thinning.is_covered.Goals as goal

pub loop-mark-init : goal.loop-mark-init
loop-mark-init c = All-nil (λ (mark : Mark). IsMarked c.args.marks.now c.args.other mark.leader)

pub loop-mark-preserved : goal.loop-mark-preserved
loop-mark-preserved c =
    let none : Mark = record { terminal = 0; leader = 0 } in
    All-more (λ (mark : Mark). IsMarked c.args.marks.now c.args.other mark.leader) c.of_terminal-own.result.now c.loop-mark.mark-index none c.loop-mark-test.true c.loop-mark.invariant
    (c.has.ensures.0 c.if-not-has.false)

pub returns-clause-somewhere : goal.returns-clause-somewhere
returns-clause-somewhere c = λ yes.
    let none : Mark = record { terminal = 0; leader = 0 } in
    let own = c.of_terminal-own.result.now in
    let some : 0 < length own = let h = c.is_empty.ensures in grind (arith, nat_tests) in (
      (get_or own 0 none).leader,
      mark_of c.args.marks.now own c.args.one (get_or own 0 none) (λ m. (c.of_terminal-own.ensures m).0) (Contains-get_or own 0 none some),
    )

pub returns-clause-covered : goal.returns-clause-covered
returns-clause-covered c = λ yes leader m.
    let there : Mark → Type 0 = λ mark. IsMarked c.args.marks.now c.args.other mark.leader in
    let own = c.of_terminal-own.result.now in
    subst (IsMarked c.args.marks.now c.args.other) m.at_leader
    (All-contains there own m.mark (All-read_all there own _ c.loop-mark-test.false c.loop-mark.invariant) ((c.of_terminal-own.ensures m.mark).1 (m.among, m.of_terminal)))
