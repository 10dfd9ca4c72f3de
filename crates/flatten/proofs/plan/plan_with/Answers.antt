use Rattle.std.proofs.Common.{arith, option_copied}
use Rattle.first_refusal.proofs.AnswerLaws.{handed_on}
use Rattle.first_refusal.proofs.JudgeLaws.{given, passed, unread}
use Rattle.map_model.specs.MapNames.{layer_map_of}
use Rattle.flatten.proofs.ChoiceLaws.{chosen_by, unknown_refused}
use Rattle.flatten.proofs.PlanLaws.{all_end, nodes_long, nodes_below, cycle_of, done_by, surveyed_of}
use Rattle.flatten.proofs.plan.plan_with.Goals as goal

pub returns-in_err-nodes : goal.returns-in_err-nodes
returns-in_err-nodes c = handed_on _ _ c.from_residual.result _ c.from_residual.ensures.1
    (unknown_refused c.args.structures.now (option_copied c.args.wanted) _ _ c.in_err-nodes.field-0.0 (rw c.requires.indexed.names at c.in_err-nodes.ensures))

pub survey-requires-clause-below : goal.survey-requires-clause-below
survey-requires-clause-below c =
    let told = rw c.requires.indexed.names at c.in_ok-nodes.ensures in
    rw c.deref.ensures.value (nodes_below c.args.structures.now (layer_map_of c.args.map.now) c.in_ok-nodes.nodes.items (given told))

pub survey-requires-clause-long : goal.survey-requires-clause-long
survey-requires-clause-long c =
    let told = rw c.requires.indexed.names at c.in_ok-nodes.ensures in
    rw c.deref.ensures.value (nodes_long c.args.structures.now (layer_map_of c.args.map.now) c.in_ok-nodes.nodes.items (given told))

pub returns-in_err-states : goal.returns-in_err-states
returns-in_err-states c =
    let told = rw c.requires.indexed.names at c.in_ok-nodes.ensures in
    handed_on _ _ c.from_residual-in_err-states.result _ c.from_residual-in_err-states.ensures.1
    (cycle_of c.args.structures.now (layer_map_of c.args.map.now) c.in_ok-nodes.nodes.items (given told) (passed told) (option_copied c.args.wanted) _ c.in_err-states.field-0.0
    (rw c.deref.ensures.value at c.in_err-states.ensures.answers))

pub top_of-requires-clause-known : goal.top_of-requires-clause-known
top_of-requires-clause-known c = passed (rw c.requires.indexed.names at c.in_ok-nodes.ensures)

pub top_of-requires-clause-ends : goal.top_of-requires-clause-ends
top_of-requires-clause-ends c =
    let told = rw c.requires.indexed.names at c.in_ok-nodes.ensures in
    let done = done_by (rw c.deref.ensures.value at c.in_ok-states.ensures.answers) in
    all_end c.args.structures.now (layer_map_of c.args.map.now) c.in_ok-nodes.nodes.items (given told) (passed told) c.in_ok-states.states.items done

pub returns-in_err-top : goal.returns-in_err-top
returns-in_err-top c = handed_on _ _ c.from_residual-in_err-top.result _ c.from_residual-in_err-top.ensures.1 (unread _ _ _ _ _ c.in_err-top.field-0.0 c.in_err-top.ensures)

pub returns : goal.returns
returns c =
    let told = rw c.requires.indexed.names at c.in_ok-nodes.ensures in
    let done = done_by (rw c.deref.ensures.value at c.in_ok-states.ensures.answers) in
    let long = nodes_long c.args.structures.now (layer_map_of c.args.map.now) c.in_ok-nodes.nodes.items (given told) in
    chosen_by c.args.structures.now _ (given c.in_ok-top.ensures) (record {
      surveyed = surveyed_of c.args.structures.now (layer_map_of c.args.map.now) c.in_ok-nodes.nodes.items (given told) (passed told) c.in_ok-states.states.items done;
      settled = done.settled;
      done = λ one h. done.done one (omega arith);
      chosen = given c.in_ok-top.ensures;
    })
