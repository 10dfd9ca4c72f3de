use Rattle.std.proofs.Common.{◌≡◌, ◌∙◌, [], ◌∷◌, ◌++◌, ap, subst, sym}
use Rattle.lists.specs.Differing.{AreDifferent}
use Rattle.lists.proofs.Differing.{AreDifferent-map, AreDifferent-unmap}
use Rattle.layer_map.specs.LayerChecks.{has_pairs, has_new_pairs}
use Rattle.layer_map.specs.Values.{pair_value}
use Rattle.first_refusal.proofs.AnswerLaws.{out_of_memory}
use Rattle.first_refusal.proofs.JudgeLaws.{fails_first}
use Rattle.layer_map.proofs.EachLaws.{fails_second, passes_each}
use Rattle.layer_map.proofs.FindLaws.{found, none_stands, stands}
use Rattle.layer_map.proofs.SeenLaws.{pair_tells, pairs_up_to}
use Rattle.layer_map.proofs.layer_items.add_pairs.Goals as goal

pub returns-in-None-clause-judged : goal.returns-in-None-clause-judged
returns-in-None-clause-judged c known earlier seen differ = fails_first _ _ _ has_pairs _ (none_stands (rw c.in-None.is at c.in_ok-more.ensures))

pub returns-then-not-branch-clause-judged : goal.returns-then-not-branch-clause-judged
returns-then-not-branch-clause-judged c known earlier seen differ =
    let there = found (rw c.in-Some.is at c.in_ok-more.ensures) in
    let not = rw c.deref.ensures.value at ((rw c.if-not-branch.true at c.in_ok-add_different-in-Some.ensures) differ) in
    fails_second _ _ _ has_pairs has_new_pairs [] (stands there)
    (λ all. not (AreDifferent-unmap pair_value (c.args.pairs.now.items ++ c.in-Some.more.items) (subst AreDifferent (pairs_up_to earlier _ _ _ seen there.written) all)))

pub returns-else-not-branch-clause-judged : goal.returns-else-not-branch-clause-judged
returns-else-not-branch-clause-judged c known earlier seen differ =
    let there = found (rw c.in-Some.is at c.in_ok-more.ensures) in
    let new = (rw c.if-not-branch.false at c.in_ok-add_different-in-Some.ensures) differ in
    let added : c.add_different.new.pairs.items ≡ c.args.pairs.now.items ++ c.in-Some.more.items = new.0 ∙ ap (λ more. c.args.pairs.now.items ++ more) c.deref.ensures.value in
    let mapped = AreDifferent-map pair_value _ pair_tells (subst AreDifferent added new.1) in
    rw c.from_vec.ensures
    (passes_each _ (has_pairs ∷ has_new_pairs ∷ []) (stands there, (subst AreDifferent (sym (pairs_up_to earlier _ _ _ seen there.written)) mapped, tt))
    (record { there = there.written; differ = new.1; added = added }))

pub returns-else-not-branch-clause-pairs : goal.returns-else-not-branch-clause-pairs
returns-else-not-branch-clause-pairs c = rw c.from_vec.ensures (found (rw c.in-Some.is at c.in_ok-more.ensures)).is

pub returns-in_err-more-clause-judged : goal.returns-in_err-more-clause-judged
returns-in_err-more-clause-judged c known earlier seen differ = out_of_memory _ _ c.from_residual.result c.from_residual.ensures.1

pub returns-in_err-add_different-in-Some-clause-judged : goal.returns-in_err-add_different-in-Some-clause-judged
returns-in_err-add_different-in-Some-clause-judged c known earlier seen differ = out_of_memory _ _ c.from_residual-in_err-add_different-in-Some.result
    c.from_residual-in_err-add_different-in-Some.ensures.1
