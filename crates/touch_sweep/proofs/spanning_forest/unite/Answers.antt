use Rattle.std.proofs.Common.{arith, inl, inr}
use Rattle.lists.proofs.Words.{leb_tells}
use Rattle.touch_sweep.proofs.TreeSteps.{made_one, of_one_tree}
use Rattle.touch_sweep.proofs.spanning_forest.unite.Goals as goal

pub returns-then-first-second-clause-one : goal.returns-then-first-second-clause-one
returns-then-first-second-clause-one c = λ one. of_one_tree c.root-first.ensures.joined c.root-second.ensures.joined (omega arith)

pub returns-clause-united : goal.returns-clause-united
returns-clause-united c =
    let x = c.root-first.result in let y = c.root-second.result in
    let greatest = c.max.ensures in let least = c.min.ensures in
    made_one c.min.result c.max.result c.root-first.ensures.joined c.root-second.ensures.joined
    (elim (leb_tells x y) [ inl h ↦ let less = h.1 in inl (omega arith, omega arith) | inr h ↦ let less = h.1 in inr (omega arith, omega arith) ])
    (omega arith)
