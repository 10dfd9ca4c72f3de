use Rattle.std.proofs.Common.{List, subst}
use Rattle.lists.proofs.Words.{IfOk-weaker}
use Rattle.geo_core.specs.declared.plane.Rect.{Rect}
use Rattle.skyline_runs.specs.Runs.{IsInTwo}
use Rattle.union_area.specs.PartRects.{AreClipped, AreRectsOf}
use Rattle.union_area.proofs.laws.ClipLaws.{rects_clipped}
use Rattle.short_area.proofs.twice.twice_in.Goals as goal

pub returns : goal.returns
returns c =
    let rects = c.args.rects.now in
    let twice = c.in_ok-twice.twice.items in
    IfOk-weaker c.clipped.result (λ inside. AreClipped c.as_slice.result.now c.args.part inside.items) (λ inside. AreRectsOf (IsInTwo rects) c.args.part inside.items)
    (λ inside clipped. rects_clipped twice c.args.part inside.items (subst (λ (xs : List Rect). AreClipped xs c.args.part inside.items) c.as_slice.ensures.value clipped)
    (IsInTwo rects) c.in_ok-twice.ensures.apart (λ d at. c.in_ok-twice.ensures.twice d))
    c.clipped.ensures
