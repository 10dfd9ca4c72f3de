use Rattle.std.proofs.Common.{◌∙◌, get_or, refl, subst, sym}
use Rattle.lists.proofs.Words.{All-contains, All-more, All-nil, Contains-get_or, false≢true}
use Rattle.lists.proofs.Reading.{All-read_all}
use Rattle.remnants.specs.declared.parts.Mark.{Mark}
use Rattle.remnants.specs.inside.Marking.{IsMarked}
use Rattle.remnants.proofs.MeetingLaws.{mark_of}
use Rattle.remnants.proofs.marking.share_leader.Goals as goal

pub loop-mark-init : goal.loop-mark-init
loop-mark-init c = All-nil (λ (mark : Mark). IsMarked c.args.marks.now c.args.other mark.leader → ⊥)

pub returns-then-has : goal.returns-then-has
returns-then-has c =
    let none : Mark = record { terminal = 0; leader = 0 } in
    let own = c.of_terminal-own.result.now in
    let k = c.loop-mark.mark-index in
    let mark = get_or own k none in (
      λ yes. (
        mark.leader,
        mark_of c.args.marks.now own c.args.one mark (λ m. (c.of_terminal-own.ensures m).0) (Contains-get_or own k none c.loop-mark-test.true),
        c.has.ensures.0 c.if-has.true,
      ),
      λ s. refl,
    )

pub loop-mark-preserved : goal.loop-mark-preserved
loop-mark-preserved c =
    let none : Mark = record { terminal = 0; leader = 0 } in
    All-more (λ (mark : Mark). IsMarked c.args.marks.now c.args.other mark.leader → ⊥) c.of_terminal-own.result.now c.loop-mark.mark-index none c.loop-mark-test.true c.loop-mark.invariant
    (λ m. false≢true (sym c.if-has.false ∙ c.has.ensures.1 m))

pub returns : goal.returns
returns c =
    let apart : Mark → Type 0 = λ mark. IsMarked c.args.marks.now c.args.other mark.leader → ⊥ in
    let own = c.of_terminal-own.result.now in (
      λ yes. absurd (false≢true yes),
      λ (leader, m, n). absurd (All-contains apart own m.mark (All-read_all apart own _ c.loop-mark-test.false c.loop-mark.invariant)
          ((c.of_terminal-own.ensures m.mark).1 (m.among, m.of_terminal)) (subst (IsMarked c.args.marks.now c.args.other) (sym m.at_leader) n)),
    )
