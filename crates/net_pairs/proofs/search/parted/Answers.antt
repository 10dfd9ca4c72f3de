use Rattle.std.proofs.Common.{arith, ap, not, sym, true, false, ◌≡◌}
use Rattle.lists.proofs.Words.{ints, lt_z}
use Rattle.lists.proofs.Filtering.{filter_ends, filter_leaves, filter_takes}
use Rattle.net_pairs.specs.inside.Meetings.{begins_before}
use Rattle.net_pairs.proofs.search.parted.Goals as goal
use Rattle.net_pairs.proofs.search.parted.Goals.{then-point-column+in_ok-push, else-point-column+in_ok-push-2}

pub loop-point-preserved : goal.loop-point-preserved
loop-point-preserved c =
    let column = c.args.column.at in let points = c.args.points.now in let i = c.loop-point.point-index in
    let x = c.point-item.result in let small = c.loop-point-test.true in let at = c.point-item.is in
    elim c.if-point-column.branch [
      | then-point-column+in_ok-push w ↦
          let t = w.if-point-column.true in
          let is : true ≡ begins_before column x = grind (arith, ints) in record {
            before = rw (w.before-is, w.in_ok-push.ensures.items) (filter_takes (begins_before column) points i x _ small at is c.loop-point.invariant.before);
            behind = rw w.behind-is (filter_leaves (λ point. not (begins_before column point)) points i x _ small at (ap not is) c.loop-point.invariant.behind);
          }
      | else-point-column+in_ok-push-2 w ↦
          let t = w.if-point-column.false in
          let is : false ≡ begins_before column x = grind (arith, ints) in record {
            before = rw w.before-is (filter_leaves (begins_before column) points i x _ small at is c.loop-point.invariant.before);
            behind = rw (w.behind-is, w.in_ok-push-2.ensures.items) (filter_takes (λ point. not (begins_before column point)) points i x _ small at (ap not is) c.loop-point.invariant.behind);
          }
    ]

pub returns : goal.returns
returns c = record {
  before = filter_ends _ c.args.points.now c.loop-point.point-index _ c.loop-point-test.false c.loop-point.invariant.before;
  behind = filter_ends _ c.args.points.now c.loop-point.point-index _ c.loop-point-test.false c.loop-point.invariant.behind;
}
