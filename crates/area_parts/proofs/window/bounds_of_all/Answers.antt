use Rattle.std.proofs.Common.{sym, subst, take}
use Rattle.area_parts.specs.inside.LayoutBounds.{AreBounds}
use Rattle.area_parts.proofs.laws.WindowLaws.{rects_of, rects_next}
use Rattle.area_parts.proofs.window.bounds_of_all.Goals as goal

pub loop-list-preserved : goal.loop-list-preserved
loop-list-preserved c =
    let lists = c.args.lists.now in
    let k = c.loop-list.list-index in
    let list = c.list-item.result in
    let of_list = subst (λ rects. AreBounds rects c.bounds_of.result) c.as_slice.ensures c.bounds_of.ensures in
    subst (λ rects. AreBounds rects c.bounds_of_both-bounds.result) (sym (rects_next lists k list c.loop-list-test.true c.list-item.is))
    (c.bounds_of_both-bounds.ensures (rects_of (take k lists)) list c.loop-list.invariant of_list)
