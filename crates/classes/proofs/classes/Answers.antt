use Rattle.std.proofs.Common.{◌+◌, ◌≡◌, length, arith, subst, sym, ◌∙◌}
use Rattle.classes.specs.Classes.{IsClasses}
use Rattle.classes.specs.inside.Spreading.{IsSettled}
use Rattle.classes.proofs.ClassLaws.{equal_where_joined}
use Rattle.classes.proofs.IndexLaws.{graph_of}
use Rattle.lists.proofs.Reading.{put_back}
use Rattle.classes.proofs.SpreadSteps.{graph_at, has_one, finish, read_is}
use Rattle.classes.proofs.classes.Goals as goal
use Rattle.classes.proofs.classes.Goals.{then-index-n+in_ok-spread, else-index-n}

pub spread-requires-clause-graph : goal.spread-requires-clause-graph
spread-requires-clause-graph c =
    let i = c.loop-start.invariant in
    let g = graph_of c.args.n c.args.pairs.now _ _ c.requires c.in_ok-index.ensures.counted c.in_ok-index.ensures.index in
    rw (c.deref.ensures.value, c.deref-then-index-n.ensures.value, c.deref_mut.ensures.value) (graph_at _ _ _ _ i.one_each g)

pub loop-start-preserved : goal.loop-start-preserved
loop-start-preserved c =
    let i = c.loop-start.invariant in
    let g = graph_of c.args.n c.args.pairs.now _ _ c.requires c.in_ok-index.ensures.counted c.in_ok-index.ensures.index in
    elim c.if-index-n.branch [
      | then-index-n+in_ok-spread w ↦
          let e : c.loop-start.classes.len ≡ length w.spread.new.classes = sym (w.spread.auto.classes ∙ w.deref_mut.ensures.len) in
          let state : IsSettled c.in_ok-index.index.starts.items c.in_ok-index.index.neighbours.items w.spread.new.classes (c.loop-start.start + 1) =
          rw (w.deref.ensures.value, w.deref-then-index-n.ensures.value) at w.in_ok-spread.ensures in
          rw w.classes-is (rw (put_back c.loop-start.classes.len w.spread.new.classes c.loop-start.classes.items e) (record { one_each = omega (arith, c.loop-start.classes.ok); state = state }))
      | else-index-n w ↦
          let r = read_is c.loop-start.classes.items c.loop-start.start c.index.result.now (omega arith) c.index.ensures in
          rw w.classes-is (record { one_each = i.one_each; state = has_one _ _ _ (graph_at _ _ _ _ i.one_each g) _ (omega arith) i.state })
    ]

pub returns : goal.returns
returns c =
    let i = c.loop-start.invariant in
    let g = graph_of c.args.n c.args.pairs.now _ _ c.requires c.in_ok-index.ensures.counted c.in_ok-index.ensures.index in
    let e : c.loop-start.start ≡ length c.loop-start.classes.items = omega arith in
    let s : IsSettled _ _ c.loop-start.classes.items (length c.loop-start.classes.items) = subst (IsSettled _ _ c.loop-start.classes.items) e i.state in
    let found : IsClasses c.args.n c.args.pairs.now c.loop-start.classes.items =
    subst (λ n. IsClasses n c.args.pairs.now c.loop-start.classes.items) i.one_each
    (finish _ _ c.loop-start.classes.items (graph_at _ _ _ _ i.one_each g) c.args.pairs.now c.in_ok-index.ensures.index s) in
    record { least = found; equal = equal_where_joined c.args.n c.args.pairs.now c.loop-start.classes.items found }
