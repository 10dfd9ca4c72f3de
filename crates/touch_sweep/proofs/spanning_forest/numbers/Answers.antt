use Rattle.std.proofs.Common.{ℕ, List, [], arith, subst, sym}
use Rattle.touch_sweep.specs.inside.Chains.{IsLinked}
use Rattle.touch_sweep.proofs.LinkLaws.{linked_itself}
use Rattle.touch_sweep.proofs.spanning_forest.numbers.Goals as goal

pub returns-clause-joined : goal.returns-clause-joined
returns-clause-joined c = λ k within.
    let one_each = c.loop-number.invariant.one_each in
    let pairs : List (ℕ × ℕ) = [] in
    subst (λ (w : ℕ). IsLinked pairs k w) (sym (c.loop-number.invariant.own k (omega arith))) (linked_itself pairs k)
