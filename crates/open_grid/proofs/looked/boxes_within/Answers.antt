use Rattle.std.proofs.Common.{sym, ◌∙◌}
use Rattle.lists.proofs.Words.{false≢true}
use Rattle.open_grid.proofs.BoxLaws.{within_all, within_dropped, within_kept}
use Rattle.open_grid.proofs.looked.boxes_within.Goals as goal
use Rattle.open_grid.proofs.looked.boxes_within.Goals.{then-is_within+in_ok-push, else-is_within}

pub loop-one-preserved : goal.loop-one-preserved
loop-one-preserved c =
    elim c.if-is_within.branch [
      | then-is_within+in_ok-push w ↦ rw w.kept-is
          (within_kept c.args.reach c.args.boxes.now c.loop-one.one-index c.one-item.result c.loop-one.kept.items c.loop-one-test.true c.one-item.is c.loop-one.invariant
          w.push.new.self.items w.in_ok-push.ensures.items)
      | else-is_within w ↦ rw w.kept-is
          (within_dropped c.args.reach c.args.boxes.now c.loop-one.one-index c.one-item.result c.loop-one.kept.items c.loop-one-test.true c.one-item.is c.loop-one.invariant
          (λ lies. false≢true (sym w.if-is_within.false ∙ c.is_within.ensures.1 lies)))
    ]

pub returns : goal.returns
returns c = rw c.from_vec.ensures (within_all c.args.reach c.args.boxes.now c.loop-one.one-index c.loop-one.kept.items c.loop-one-test.false c.loop-one.invariant)
