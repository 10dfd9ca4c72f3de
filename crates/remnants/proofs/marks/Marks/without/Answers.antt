use Rattle.std.proofs.Common.{ℕ, List, AllPairs, ◌∙◌, get_or, sym, subst, take, take_all}
use Rattle.lists.proofs.Words.{take_more, false≢true}
use Rattle.remnants.specs.declared.parts.Mark.{Mark}
use Rattle.remnants.specs.inside.Marking.{IsBefore}
use Rattle.remnants.proofs.OrderLaws.{stay_ordered}
use Rattle.remnants.proofs.SpreadLaws.{StayWithout, stays_more, goes_more}
use Rattle.remnants.proofs.marks.Marks.without.Goals as goal
use Rattle.remnants.proofs.marks.Marks.without.Goals.{then-not-has+in_ok-push, else-not-has}

pub loop-mark-preserved : goal.loop-mark-preserved
loop-mark-preserved c =
    let items = c.deref-mark-items.result.now in
    let k = c.loop-mark.mark-index in
    let none : Mark = record { terminal = 0; leader = 0 } in
    let of_terminal : Mark → ℕ = λ mark. mark.terminal in
    let more = take_more items k none c.loop-mark-test.true in
    let stay = c.loop-mark.stay.items in
    let so_far = c.loop-mark.invariant in
    elim c.if-not-has.branch [
      | then-not-has+in_ok-push w ↦ rw (more, w.stay-is, w.in_ok-push.ensures.items) (
        stays_more of_terminal c.args.gone.now (take k items) stay so_far.0 (get_or items k none) (λ h. false≢true (sym w.if-not-has.true ∙ c.has.ensures.1 h)),
        stay_ordered c.args.gone.now items stay k none c.loop-mark-test.true so_far.0 (subst (AllPairs IsBefore) (sym c.deref-mark-items.ensures.value) c.self.invariant) so_far.1,
      )
      | else-not-has w ↦ rw (more, w.stay-is)
          (goes_more of_terminal c.args.gone.now (take k items) stay so_far.0 (get_or items k none) (c.has.ensures.0 w.if-not-has.false), so_far.1)
    ]

pub returns : goal.returns
returns c =
    let items = c.deref-mark-items.result.now in
    let stay = c.loop-mark.stay.items in
    let all = rw (take_all c.loop-mark.mark-index items c.loop-mark-test.false) at c.loop-mark.invariant.0 in
    subst (λ (ms : List Mark). StayWithout (λ (mark : Mark). mark.terminal) c.args.gone.now ms stay) (c.deref-mark-items.ensures.value ∙ c.self.view_is) all

pub invariant_of-result : goal.invariant_of-result
invariant_of-result c = c.loop-mark.invariant.1
