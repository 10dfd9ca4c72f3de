-- a new tree has counted nothing, so what is put may be put, and what was put may be taken
use Rattle.std.proofs.Common.{ℕ, ◌≤◌, ◌≡◌, ◌∙◌, refl, ap, subst, arith, length, List, Bool, true, false, cond}
use Rattle.std.specs.Prelude.{ℤ, IsTrue}
use Rattle.cover_tree.specs.TreeNodes.{TreeNode, IsNodeOf, is_in_cut, times_in_cut}
use Rattle.area_rows.proofs.sweeps.tree_rows.widths_in_turn.Goals as goal

at_most_once : (in_cut : Bool) → cond in_cut 1 0 ≤ 1
at_most_once true = omega arith
at_most_once false = omega arith

pub put-requires : goal.put-requires
put-requires g c =
    let new = c.in_ok-tree.ensures in
    let long = ap (λ (xs : List ℤ). length xs) new.places in
    record { some = omega arith; within = omega (arith, long); room = λ node n t. let none = new.counts node n in omega (arith, none) }

pub put-requires-2 : goal.put-requires-2
put-requires-2 g c =
    let new = c.in_ok-tree.ensures in let put = c.put.ensures.put in
    let long = ap (λ (xs : List ℤ). length xs) (put.keeps.places ∙ new.places) in
    record {
      some = omega arith;
      within = omega (arith, long);
      room = λ node n t.
          let before = subst (λ height. IsNodeOf height node) put.keeps.height n in
          let none = new.counts node before in let step = put.counts node before in
          let once = at_most_once (is_in_cut c.in_ok-tree.tree.height 0 2 node) in
          omega (arith, none, step, once);
    }

pub take-requires : goal.take-requires
take-requires g c =
    let new = c.in_ok-tree.ensures in let first = c.put.ensures.put in let second = c.put-2.ensures.put in
    let long = ap (λ (xs : List ℤ). length xs) (second.keeps.places ∙ first.keeps.places ∙ new.places) in
    record {
      some = omega arith;
      within = omega (arith, long);
      was_put = λ node n t.
          let then = subst (λ height. IsNodeOf height node) second.keeps.height n in
          let before = subst (λ height. IsNodeOf height node) first.keeps.height then in
          let one = first.counts node before in let other = second.counts node then in
          let cut = subst (λ height. IsTrue (is_in_cut height 0 2 node)) (second.keeps.height ∙ first.keeps.height) t in
          let once : times_in_cut c.in_ok-tree.tree.height 0 2 node ≡ 1 = ap {B = ℕ} (λ in_cut. cond in_cut 1 0) cut in
          omega (arith, one, other, once);
    }
