use Rattle.std.proofs.Common.{ℕ, ◌∙◌, get_or, sym, take, take_all}
use Rattle.lists.proofs.Words.{take_more, false≢true}
use Rattle.remnants.proofs.SpreadLaws.{stays_more, goes_more}
use Rattle.remnants.proofs.thinning.terminals_without.Goals as goal
use Rattle.remnants.proofs.thinning.terminals_without.Goals.{then-not-has+in_ok-push, else-not-has}

pub loop-terminal-preserved : goal.loop-terminal-preserved
loop-terminal-preserved c =
    let items = c.args.terminals.now in
    let k = c.loop-terminal.terminal-index in
    let more = take_more items k 0 c.loop-terminal-test.true in
    elim c.if-not-has.branch [
      | then-not-has+in_ok-push w ↦ rw (more, w.stay-is, w.in_ok-push.ensures.items)
          (stays_more (λ (terminal : ℕ). terminal) c.args.gone.now (take k items) c.loop-terminal.stay.items c.loop-terminal.invariant (get_or items k 0)
          (λ h. false≢true (sym w.if-not-has.true ∙ c.has.ensures.1 h)))
      | else-not-has w ↦ rw (more, w.stay-is)
          (goes_more (λ (terminal : ℕ). terminal) c.args.gone.now (take k items) c.loop-terminal.stay.items c.loop-terminal.invariant (get_or items k 0) (c.has.ensures.0 w.if-not-has.false))
    ]

pub returns : goal.returns
returns c = rw (take_all c.loop-terminal.terminal-index c.args.terminals.now c.loop-terminal-test.false) at c.loop-terminal.invariant
