use Rattle.touch_sweep.specs.inside.Strips.{begins_in}
use Rattle.touch_sweep.proofs.strip.Strip.beginning.Goals as goal
use Rattle.touch_sweep.proofs.strip.Strip.beginning.Goals.{then-has_begin_of+in_ok-push, else-has_begin_of}
use Rattle.lists.proofs.Filtering.{filter_ends, filter_leaves, filter_takes}

pub loop-entry-preserved : goal.loop-entry-preserved
loop-entry-preserved c =
    let test = begins_in c.args.self.low c.args.self.high in
    elim c.if-has_begin_of.branch [
      | then-has_begin_of+in_ok-push w ↦ rw (w.found-is, w.in_ok-push.ensures.items)
          (filter_takes test c.args.entries.now c.loop-entry.entry-index c.entry-item.result _ c.loop-entry-test.true c.entry-item.is w.if-has_begin_of.ensures c.loop-entry.invariant)
      | else-has_begin_of w ↦ rw w.found-is
          (filter_leaves test c.args.entries.now c.loop-entry.entry-index c.entry-item.result _ c.loop-entry-test.true c.entry-item.is w.if-has_begin_of.ensures c.loop-entry.invariant)
    ]

pub returns : goal.returns
returns c = filter_ends _ c.args.entries.now c.loop-entry.entry-index _ c.loop-entry-test.false c.loop-entry.invariant
