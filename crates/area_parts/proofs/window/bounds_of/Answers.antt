use Rattle.std.proofs.Common.{[], ◌∷◌, sym, subst, take, take_all}
use Rattle.geo_core.specs.Plane.{IsInLayout}
use Rattle.lists.proofs.Reading.{taken_more}
use Rattle.area_parts.specs.inside.LayoutBounds.{AreBounds}
use Rattle.area_parts.proofs.laws.WindowLaws.{one_bounds}
use Rattle.area_parts.proofs.window.bounds_of.Goals as goal

pub loop-rect-preserved : goal.loop-rect-preserved
loop-rect-preserved c =
    let rects = c.args.rects.now in
    let k = c.loop-rect.rect-index in
    let rect = c.rect-item.result in
    let within = subst IsInLayout (sym c.rect-item.is) (c.requires k rect c.loop-rect-test.true) in
    subst (λ rs. AreBounds rs c.bounds_of_both-bounds.result) (sym (taken_more rects k rect c.loop-rect-test.true c.rect-item.is))
    (c.bounds_of_both-bounds.ensures (take k rects) (rect ∷ []) c.loop-rect.invariant (one_bounds rect within))

pub returns : goal.returns
returns c = subst (λ rs. AreBounds rs c.loop-rect.bounds) (take_all c.loop-rect.rect-index c.args.rects.now c.loop-rect-test.false) c.loop-rect.invariant
