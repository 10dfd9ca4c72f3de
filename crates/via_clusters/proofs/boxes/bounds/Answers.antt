use Rattle.std.proofs.Common.{List, [], ◌∷◌, ◌++◌, ◌∙◌, ap, subst, sym, take, take_all}
use Rattle.lists.proofs.Words.{take_more}
use Rattle.geo_core.specs.Plane.{IsInUnion}
use Rattle.geo_core.specs.declared.plane.Rect.{Rect}
use Rattle.fault_model.specs.FaultNames.{IsBoundsOf}
use Rattle.via_clusters.proofs.ClusterBoxLaws.{bounds_of_first, bounds_of_more, bounds_of_all}
use Rattle.via_clusters.proofs.boxes.bounds.Goals as goal

pub loop-rect-init : goal.loop-rect-init
loop-rect-init c = bounds_of_first c.index-rects-0.result

pub loop-rect-preserved : goal.loop-rect-preserved
loop-rect-preserved c =
    let rects = c.args.rects.now in
    let first = c.index-rects-0.result in
    let k = c.loop-rect.rect-index in
    let rect = c.rect-item.result in
    let more = take_more rects k rect c.loop-rect-test.true ∙ ap (λ r. take k rects ++ r ∷ []) (sym c.rect-item.is) in
    let joined = bounds_of_more (first ∷ take k rects) rect c.loop-rect.bounds c.join-bounds.result c.loop-rect.invariant c.join-bounds.ensures in
    subst (λ (rs : List Rect). IsBoundsOf (IsInUnion (first ∷ rs)) c.join-bounds.result) (sym more) joined

pub returns : goal.returns
returns c =
    let rects = c.args.rects.now in
    let first = c.index-rects-0.result in
    let bounds = c.loop-rect.bounds in
    let all = subst (λ (rs : List Rect). IsBoundsOf (IsInUnion (first ∷ rs)) bounds) (take_all c.loop-rect.rect-index rects c.loop-rect-test.false) c.loop-rect.invariant in
    bounds_of_all rects first bounds (0, c.requires, sym c.index-rects-0.is) all
