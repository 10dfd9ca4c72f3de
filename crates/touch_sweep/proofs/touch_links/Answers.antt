use Rattle.touch_sweep.proofs.LinkedRects.{begins_of_all, linked_touch, touching_joined}
use Rattle.touch_sweep.proofs.touch_links.Goals as goal

pub link-requires : goal.link-requires
link-requires c =
    record {
      rows = c.in_ok-entries.ensures.ordered;
      splits = begins_of_all c.args.rects.now c.in_ok-entries.entries.items _ _ _ c.in_ok-entries.ensures.numbered
          (rw (c.around-strip.ensures.splits, c.as_slice-2.ensures.value) c.in_ok-columns.ensures.ordered) (rw (c.around-strip.ensures.splits, c.as_slice-2.ensures.value) c.in_ok-columns.ensures.all);
    }

pub returns-clause-touching : goal.returns-clause-touching
returns-clause-touching c = linked_touch c.args.rects.now c.in_ok-entries.entries.items c.around-strip.result.low c.around-strip.result.high _
    c.in_ok-entries.ensures.numbered (rw c.as_slice.ensures.value at c.around-strip.ensures.within) (rw c.new-pairs.ensures.items at c.in_ok-link.ensures.joined)

pub returns-clause-joined : goal.returns-clause-joined
returns-clause-joined c = touching_joined c.args.rects.now c.in_ok-entries.entries.items c.around-strip.result.low c.around-strip.result.high _
    c.in_ok-entries.ensures.numbered (rw c.as_slice.ensures.value at c.around-strip.ensures.within) (rw c.new-pairs.ensures.items at c.in_ok-link.ensures.joined)
