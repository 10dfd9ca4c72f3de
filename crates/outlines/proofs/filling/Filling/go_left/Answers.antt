use Rattle.std.proofs.Common.{AllPairs, ◌<ℤ◌, reverse, sym, subst, arith}
use Rattle.lists.proofs.Words.{ints}
use Rattle.outlines.proofs.FillingLaws.{all_ended}
use Rattle.outlines.proofs.filling.Filling.go_left.Goals as goal

pub returns-then-run-column-clause-left : goal.returns-then-run-column-clause-left
returns-then-run-column-clause-left c =
    rw c.in_ok-push.ensures.items (all_ended c.loop-run.self.left.items c.pop.new.self.items (reverse c.loop-run.self.right.items) c.in-Some.run' c.args.column c.in-Some.ensures.items
    (subst (AllPairs (λ a b. a.high <ℤ b.low)) (sym c.loop-run.invariant.runs) c.requires) (omega (arith, ints, c.if-run-column.true)))
