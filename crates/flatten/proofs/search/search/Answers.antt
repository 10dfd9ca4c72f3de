use Rattle.std.proofs.Common.{◌≡◌, ◌≤◌, ◌+◌, [], ◌∷◌, ◌++◌, length, length-append, sym, ap, subst, ◌∙◌, arith}
use Rattle.flatten.specs.inside.Searches.{IsSearch, steps_left}
use Rattle.flatten.proofs.SearchLaws.{begins_search, begins_keeping, ends_settled, ends_done}
use Rattle.flatten.proofs.search.search.Goals as goal

pub loop-one-init : goal.loop-one-init
loop-one-init c =
    let items : c.push.new.self.items ≡ c.args.root ∷ [] = c.in_ok-push.ensures.items ∙ ap (λ l. l ++ c.args.root ∷ []) c.requires.empty in
    record {
      search = subst (IsSearch _ _ _) (sym items) (begins_search c.requires.settled c.requires.long c.requires.root c.requires.new);
      kept = begins_keeping c.requires.settled c.requires.long c.requires.root c.requires.new;
    }

pub step-requires-clause-search : goal.step-requires-clause-search
step-requires-clause-search c = subst (IsSearch c.args.nodes.now c.args.root c.loop-one.states) c.in-Some.ensures.items c.loop-one.invariant.search

pub loop-one-preserved : goal.loop-one-preserved
loop-one-preserved c = record {
  search = rw c.if-not-branch.false at c.in_ok-step.ensures.search;
  kept = λ x s d. c.in_ok-step.ensures.kept x s (c.loop-one.invariant.kept x s d);
}

pub returns-clause-settled : goal.returns-clause-settled
returns-clause-settled c = ends_settled c.loop-one.invariant.search (omega (arith, c.in_default.ensures.cases.0))

pub returns-clause-done : goal.returns-clause-done
returns-clause-done c = ends_done c.loop-one.invariant.search (omega (arith, c.in_default.ensures.cases.0))

pub loop-one-smaller : goal.loop-one-smaller
loop-one-smaller c =
    let less : steps_left c.step.new.states c.step.new.stack.items ≤ steps_left c.loop-one.states c.pop.new.self.items = c.in_ok-step.ensures.less in
    let popped : length c.loop-one.stack.items ≡ length c.pop.new.self.items + 1 = ap length c.in-Some.ensures.items ∙ length-append c.pop.new.self.items (c.in-Some.one ∷ []) in
    omega arith
