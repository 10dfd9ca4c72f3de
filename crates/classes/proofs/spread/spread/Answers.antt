use Rattle.std.proofs.Common.{◌≡◌, length, ap, length-set, add-one, arith, refl, ◌∙◌}
use Rattle.classes.proofs.SpreadSteps.{graph_at, begin, take_one, taken, done}
use Rattle.classes.proofs.spread.spread.Goals as goal

pub loop-number-init : goal.loop-number-init
loop-number-init c = record {
  same = refl;
  state = (
    0,
    rw (c.in_ok-push_back.ensures.items, c.new-todo.ensures.items)
        (begin _ _ _ c.requires.graph _ c.requires.start c.requires.fresh c.requires.before 0),
  );
}

pub reach-requires-clause-number : goal.reach-requires-clause-number
reach-requires-clause-number c =
    let e : length c.loop-number.classes ≡ length c.args.classes.now = c.loop-number.auto.classes ∙ length-set c.args.classes.now c.args.start c.args.start in
    (taken _ _ _ (graph_at _ _ _ _ e c.requires.graph) _ _ _ _ _ c.in-Some.ensures.items c.loop-number.invariant.state.1).0

pub reach-requires-clause-before : goal.reach-requires-clause-before
reach-requires-clause-before c =
    let e : length c.loop-number.classes ≡ length c.args.classes.now = c.loop-number.auto.classes ∙ length-set c.args.classes.now c.args.start c.args.start in
    take_one _ _ _ (graph_at _ _ _ _ e c.requires.graph) _ _ _ _ _ c.in-Some.ensures.items c.loop-number.invariant.state.1

pub returns : goal.returns
returns c =
    let e : length c.loop-number.classes ≡ length c.args.classes.now = c.loop-number.auto.classes ∙ length-set c.args.classes.now c.args.start c.args.start in
    done _ _ _ (graph_at _ _ _ _ e c.requires.graph) _ _ _ (let h = c.in_default.ensures.cases.0 in omega (arith, c.loop-number.todo.ok)) (omega arith) c.loop-number.invariant.state.1

pub reach-requires-clause-graph : goal.reach-requires-clause-graph
reach-requires-clause-graph c =
    let e : length c.loop-number.classes ≡ length c.args.classes.now = c.loop-number.auto.classes ∙ length-set c.args.classes.now c.args.start c.args.start in
    graph_at _ _ _ _ e c.requires.graph

pub reach-requires-clause-class : goal.reach-requires-clause-class
reach-requires-clause-class c =
    let e : length c.loop-number.classes ≡ length c.args.classes.now = c.loop-number.auto.classes ∙ length-set c.args.classes.now c.args.start c.args.start in
    omega arith

pub reach-requires-clause-marked : goal.reach-requires-clause-marked
reach-requires-clause-marked c =
    let e : length c.loop-number.classes ≡ length c.args.classes.now = c.loop-number.auto.classes ∙ length-set c.args.classes.now c.args.start c.args.start in
    (taken _ _ _ (graph_at _ _ _ _ e c.requires.graph) _ _ _ _ _ c.in-Some.ensures.items c.loop-number.invariant.state.1).1

pub loop-number-smaller : goal.loop-number-smaller
loop-number-smaller c = let f = c.in_ok-reach.ensures.fewer in omega (arith, c.in-Some.ensures.len, ap length c.in-Some.ensures.items, c.loop-number.todo.ok, c.pop_front.new.self.ok)

pub loop-number-preserved : goal.loop-number-preserved
loop-number-preserved c = record { same = refl; state = (c.in-Some.number, rw add-one at c.in_ok-reach.ensures.after) }
