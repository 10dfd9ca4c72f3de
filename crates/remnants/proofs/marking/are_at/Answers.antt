use Rattle.std.proofs.Common.{ℕ}
use Rattle.lists.proofs.Words.{All-contains, All-more, All-nil}
use Rattle.lists.proofs.Reading.{All-read_all}
use Rattle.remnants.specs.inside.Marking.{IsMarked}
use Rattle.remnants.proofs.marking.are_at.Goals as goal

pub loop-terminal-init : goal.loop-terminal-init
loop-terminal-init c = All-nil (λ (terminal : ℕ). IsMarked c.args.marks.now terminal c.args.leader)

pub loop-terminal-preserved : goal.loop-terminal-preserved
loop-terminal-preserved c =
    All-more (λ (terminal : ℕ). IsMarked c.args.marks.now terminal c.args.leader) c.args.terminals.now c.loop-terminal.terminal-index 0 c.loop-terminal-test.true c.loop-terminal.invariant
    (c.has.ensures.0 c.if-not-has.false)

pub returns : goal.returns
returns c = λ yes terminal among.
    let at : ℕ → Type 0 = λ t. IsMarked c.args.marks.now t c.args.leader in
    All-contains at c.args.terminals.now terminal (All-read_all at c.args.terminals.now _ c.loop-terminal-test.false c.loop-terminal.invariant) among
