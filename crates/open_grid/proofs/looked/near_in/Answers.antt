use Rattle.std.proofs.Common.{inl, inr, sym, ◌∙◌}
use Rattle.lists.proofs.Words.{false≢true}
use Rattle.open_grid.proofs.BoxLaws.{box_dropped, box_kept, boxes_all, of_all, of_dropped, of_kept}
use Rattle.open_grid.proofs.looked.near_in.Goals as goal
use Rattle.open_grid.proofs.looked.near_in.Goals.{then-may_matter+in_ok-push, else-may_matter}

pub loop-one-preserved : goal.loop-one-preserved
loop-one-preserved c =
    let near = c.args.near.now in
    let i = c.loop-one.one-index in
    let one = c.one-item.result in
    let old = c.loop-one.kept.items in
    let small = c.loop-one-test.true in
    let is = c.one-item.is in
    elim c.if-may_matter.branch [
      | then-may_matter+in_ok-push w ↦ rw w.kept-is (
        box_kept c.args.core c.args.reach near i one old small is c.loop-one.invariant.0 w.push.new.self.items w.in_ok-push.ensures.items,
        of_kept near i one old small is c.loop-one.invariant.1 w.push.new.self.items w.in_ok-push.ensures.items,
      )
      | else-may_matter w ↦ rw w.kept-is (
        box_dropped c.args.core c.args.reach near i one old small is c.loop-one.invariant.0
            (elim c.may_matter.ensures [ inl t ↦ absurd (false≢true (sym w.if-may_matter.false ∙ t)) | inr n ↦ n ]),
        of_dropped near i one old small is c.loop-one.invariant.1,
      )
    ]

pub returns-clause-near : goal.returns-clause-near
returns-clause-near c = rw c.from_vec.ensures (boxes_all c.args.core c.args.reach c.args.near.now c.loop-one.one-index c.loop-one.kept.items c.loop-one-test.false c.loop-one.invariant.0)

pub returns-clause-of_near : goal.returns-clause-of_near
returns-clause-of_near c = rw c.from_vec.ensures (of_all c.args.near.now c.loop-one.one-index c.loop-one.kept.items c.loop-one-test.false c.loop-one.invariant.1)
