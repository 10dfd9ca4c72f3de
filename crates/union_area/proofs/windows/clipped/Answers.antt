use Rattle.union_area.proofs.laws.ClipLaws.{clipped_all, clipped_more, clipped_none, clipped_past}
use Rattle.union_area.proofs.windows.clipped.Goals as goal
use Rattle.union_area.proofs.windows.clipped.Goals.{in-None, in-Some+in_ok-push-in-Some}

pub loop-rect-init : goal.loop-rect-init
loop-rect-init c = rw c.new-inside.ensures.items (clipped_none c.args.rects.now c.args.window)

pub loop-rect-preserved : goal.loop-rect-preserved
loop-rect-preserved c =
    let so_far = c.loop-rect.invariant in
    let small = c.loop-rect-test.true in
    elim c.match-clip.branch [
      | in-None w ↦ rw w.inside-is (clipped_past _ _ _ _ so_far _ small c.rect-item.is w.in-None.ensures.none)
      | in-Some+in_ok-push-in-Some w ↦ rw (w.inside-is, w.in_ok-push-in-Some.ensures.items)
          (clipped_more _ _ _ _ so_far _ small c.rect-item.is w.in-Some.part w.in-Some.ensures.some)
    ]

pub returns : goal.returns
returns c = clipped_all _ _ _ _ c.loop-rect-test.false c.loop-rect.invariant
