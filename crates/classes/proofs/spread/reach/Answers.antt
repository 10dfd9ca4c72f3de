use Rattle.std.proofs.Common.{arith, add-one}
use Rattle.classes.specs.inside.Spreading.{IsPlaceOf}
use Rattle.classes.proofs.SpreadSteps.{graph_at, listed, step_on}
use Rattle.classes.proofs.spread.reach.Goals as goal

pub mark-requires : goal.mark-requires
mark-requires c =
    let p : IsPlaceOf c.args.starts.now c.args.number c.loop-place.place = (c.loop-place.auto.place, rw add-one at c.loop-place-test.true) in
    let b = c.requires.graph.below c.args.number _ (listed c.args.starts.now c.args.neighbours.now c.args.number c.loop-place.place p) in
    omega arith

pub loop-place-preserved : goal.loop-place-preserved
loop-place-preserved c =
    let p : IsPlaceOf c.args.starts.now c.args.number c.loop-place.place = (c.loop-place.auto.place, rw add-one at c.loop-place-test.true) in
    let b = c.requires.graph.below c.args.number _ (listed c.args.starts.now c.args.neighbours.now c.args.number c.loop-place.place p) in
    let i = c.loop-place.invariant in
    let s = step_on c.args.starts.now c.args.neighbours.now c.loop-place.classes c.loop-place.todo.items _ _ c.args.class c.args.number c.loop-place.place
    (graph_at _ _ _ _ c.loop-place.auto.classes c.requires.graph) (omega arith) (omega arith) (omega arith) i.marked p i.state c.in_ok-mark.ensures in
    record { marked = s.marked; state = s.state; fewer = let f = s.fewer in let g = i.fewer in omega (arith, c.loop-place.todo.ok, c.mark.new.todo.ok) }
