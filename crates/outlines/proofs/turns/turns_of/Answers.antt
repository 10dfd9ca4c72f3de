use Rattle.std.proofs.Common.{inl, inr, refl, sym, subst, ◌≡◌, [], All}
use Rattle.lists.proofs.Words.{All-head, All-tail}
use Rattle.geo_core.specs.Plane.{IsInRange}
use Rattle.outlines.specs.Outlines.{edges_of}
use Rattle.outlines.specs.inside.OutlineTurns.{AreTurnsOf}
use Rattle.outlines.proofs.EdgeLaws.{edges_begun, edges_ended, edges_none}
use Rattle.outlines.proofs.OutlineTurnLaws.{none_turned, one_more_edge, all_edges}
use Rattle.outlines.proofs.turns.turns_of.Goals as goal

pub returns-in_default : goal.returns-in_default
returns-in_default c =
    rw c.in_ok-turns.ensures.items (subst (λ es. AreTurnsOf es []) (sym (edges_none c.args.points.now c.in_default.ensures.cases)) (record { across = λ at row. refl; ended = λ at. refl }))

pub loop-from-init : goal.loop-from-init
loop-from-init c =
    let points = c.args.points.now in
    let others = c.in-Some.others.now in
    let parts = c.in-Some.ensures.cases.0 in
    let z = c.into_iter-from-iterator.result in
    let first : z.a.rest.now ≡ points = cc in
    let second : z.b.rest.now ≡ others = cc in
    rw c.in_ok-turns.ensures.items
    (none_turned _ _ (edges_of points) (edges_begun points others _ _ c.in-Some.field-0-0.now parts first second)
    (subst (All IsInRange) (sym first) c.requires) (subst (All IsInRange) (sym second) (All-tail IsInRange _ others (subst (All IsInRange) parts c.requires))))

pub add_turns-requires-clause-from : goal.add_turns-requires-clause-from
add_turns-requires-clause-from c =
    let froms = c.in-Some-2.ensures.steps.0 in All-head IsInRange c.in-Some-2.from.now _ (subst (All IsInRange) froms c.loop-from.invariant.froms_in_range)

pub add_turns-requires-clause-to : goal.add_turns-requires-clause-to
add_turns-requires-clause-to c =
    let tos = c.in-Some-2.ensures.steps.1 in All-head IsInRange c.in-Some-2.to.now _ (subst (All IsInRange) tos c.loop-from.invariant.tos_in_range)

pub loop-from-preserved : goal.loop-from-preserved
loop-from-preserved c =
    let steps = c.in-Some-2.ensures.steps in
    one_more_edge _ _ (edges_of c.args.points.now) _ _ c.in-Some-2.from.now c.in-Some-2.to.now c.loop-from.turns.items _ steps.0 steps.1 c.in_ok-add_turns.ensures c.loop-from.invariant

pub returns : goal.returns
returns c =
    let ended = edges_ended _ _ (elim c.in-None.ensures.steps [ inl h ↦ inl h.1.0 | inr h ↦ inr h.1.0 ]) in
    all_edges _ _ (edges_of c.args.points.now) c.loop-from.turns.items ended c.loop-from.invariant
