use Rattle.std.proofs.Common.{ap, not, sym}
use Rattle.std.proofs.lemmas.Bool.{le-ltb, lt-ltb}
use Rattle.lists.proofs.Filtering.{filter_ends, filter_leaves, filter_takes}
use Rattle.touch_sweep.proofs.AcrossSteps.{is_before, is_behind}
use Rattle.touch_sweep.proofs.across.parted.Goals as goal
use Rattle.touch_sweep.proofs.across.parted.Goals.{then-entry-count+in_ok-push, else-entry-count+in_ok-push-2}

pub loop-entry-preserved : goal.loop-entry-preserved
loop-entry-preserved c =
    let count = c.args.count in let entries = c.args.entries.now in let i = c.loop-entry.entry-index in
    let x = c.entry-item.result in let small = c.loop-entry-test.true in let at = c.entry-item.is in
    elim c.if-entry-count.branch [
      | then-entry-count+in_ok-push w ↦
          let is = sym (lt-ltb x.number count w.if-entry-count.true) in record {
            before = rw (w.before-is, w.in_ok-push.ensures.items) (filter_takes (is_before count) entries i x _ small at is c.loop-entry.invariant.before);
            behind = rw w.behind-is (filter_leaves (is_behind count) entries i x _ small at (ap not is) c.loop-entry.invariant.behind);
          }
      | else-entry-count+in_ok-push-2 w ↦
          let is = sym (le-ltb x.number count w.if-entry-count.false) in record {
            before = rw w.before-is (filter_leaves (is_before count) entries i x _ small at is c.loop-entry.invariant.before);
            behind = rw (w.behind-is, w.in_ok-push-2.ensures.items) (filter_takes (is_behind count) entries i x _ small at (ap not is) c.loop-entry.invariant.behind);
          }
    ]

pub returns : goal.returns
returns c = record {
  before = filter_ends _ c.args.entries.now c.loop-entry.entry-index _ c.loop-entry-test.false c.loop-entry.invariant.before;
  behind = filter_ends _ c.args.entries.now c.loop-entry.entry-index _ c.loop-entry-test.false c.loop-entry.invariant.behind;
}
