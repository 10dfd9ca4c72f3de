use Rattle.std.proofs.Common.{ℕ, ◌≢◌, sym}
use Rattle.lists.proofs.Words.{All-contains, All-more, All-nil}
use Rattle.lists.proofs.Reading.{All-read_all}
use Rattle.remnants.specs.inside.Marking.{ShareLeader}
use Rattle.remnants.proofs.marking.lacks_other.Goals as goal
use Rattle.remnants.proofs.marking.lacks_other.Goals.{else-other-one-via-then-other-one+else-not-share_leader, else-other-one-via-else-other-one}

pub loop-other-init : goal.loop-other-init
loop-other-init c = All-nil (λ (other : ℕ). c.args.one ≢ other → ShareLeader c.args.marks.now c.args.one other)

pub loop-other-preserved : goal.loop-other-preserved
loop-other-preserved c =
    All-more (λ (other : ℕ). c.args.one ≢ other → ShareLeader c.args.marks.now c.args.one other) c.args.terminals.now c.loop-other.other-index 0 c.loop-other-test.true c.loop-other.invariant
    (elim c.else-other-one.branch [
      | else-other-one-via-then-other-one+else-not-share_leader w ↦ λ other. w.share_leader.ensures.0 w.if-not-share_leader.false
      | else-other-one-via-else-other-one w ↦ λ other. absurd (other (sym w.if-other-one.false))
    ])

pub returns : goal.returns
returns c =
    let meets : ℕ → Type 0 = λ other. c.args.one ≢ other → ShareLeader c.args.marks.now c.args.one other in
    λ other among. All-contains meets c.args.terminals.now other (All-read_all meets c.args.terminals.now _ c.loop-other-test.false c.loop-other.invariant) among
