use Rattle.std.proofs.Common.{List, subst}
use Rattle.geo_core.specs.declared.plane.Rect.{Rect}
use Rattle.skyline_runs.specs.Runs.{AreApart, HaveCellsOfTwo, IsInTwo}
use Rattle.union_area.specs.PartRects.{AreClipped}
use Rattle.union_area.proofs.laws.ClipLaws.{rects_clipped}
use Rattle.short_area.proofs.twice.few_twice_in.Goals as goal

pub returns : goal.returns
returns c =
    let rects = c.args.rects.now in
    let twice = c.in-Some.twice.items in
    let inside = c.in_ok-clipped.field-0.items in
    let cells : HaveCellsOfTwo rects twice = rw c.in-Some.is at c.in_ok-twice.ensures.twice in
    let apart : AreApart twice = rw c.in-Some.is at c.in_ok-twice.ensures.apart in
    rects_clipped twice c.args.part inside (subst (λ (xs : List Rect). AreClipped xs c.args.part inside) c.as_slice.ensures.value c.in_ok-clipped.ensures)
    (IsInTwo rects) apart (λ d at. cells d)
