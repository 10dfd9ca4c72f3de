use Rattle.std.proofs.Common.{arith, subst, sym, List}
use Rattle.lists.proofs.Words.{IfOk-weaker}
use Rattle.geo_core.specs.declared.plane.Rect.{Rect}
use Rattle.skyline_runs.specs.Runs.{IsInTwo}
use Rattle.union_area.specs.PartRects.{AreClipped, AreRectsOf, GainsPart}
use Rattle.union_area.proofs.laws.GainLaws.{gains_halves, gains_if_ok}
use Rattle.union_area.proofs.laws.PartLaws.{fewer_cells}
use Rattle.union_area.proofs.laws.ClipLaws.{clipped_two}
use Rattle.short_area.proofs.twice.+with_twice.Goals as goal

pub returns-in-Some : goal.returns-in-Some
returns-in-Some t c =
    let wanted = IsInTwo c.args.rects.items in
    let part = c.args.part in
    let found : AreRectsOf (IsInTwo c.as_slice.result.now) part c.in-Some.twice.items = rw c.in-Some.is at c.in_ok-twice.ensures in
    let are = subst (λ (xs : List Rect). AreRectsOf (IsInTwo xs) part c.in-Some.twice.items) c.as_slice.ensures.value found in
    gains_if_ok wanted part c.args.found c.as_slice-in-Some.result.now c.with.result (subst (AreRectsOf wanted part) (sym c.as_slice-in-Some.ensures.value) are)
    c.with.ensures.same c.with.ensures.apart

pub returns-in-None : goal.returns-in-None
returns-in-None t c =
    let wanted = IsInTwo c.args.rects.items in
    let part = c.args.part in
    let twice = c.in_ok-twice-in-None in
    let are = subst (λ (xs : List Rect). AreRectsOf (IsInTwo xs) part twice.twice.items) c.as_slice-in-None.ensures.value twice.ensures in
    gains_if_ok wanted part c.args.found c.as_slice-in-None-2.result.now c.with-in-None.result (subst (AreRectsOf wanted part) (sym c.as_slice-in-None-2.ensures.value) are)
    c.with-in-None.ensures.same c.with-in-None.ensures.apart

pub with_twice-requires : goal.with_twice-requires
with_twice-requires t c = let fewer = fewer_cells c.args.part _ _ c.in-Some-halves_of.ensures in (omega (arith, fewer.0), tt)

pub with_twice-requires-in-Some-halves_of : goal.with_twice-requires-in-Some-halves_of
with_twice-requires-in-Some-halves_of t c = let fewer = fewer_cells c.args.part _ _ c.in-Some-halves_of.ensures in (omega (arith, fewer.1), tt)

pub returns : goal.returns
returns t c =
    let rects = c.args.rects.items in
    let first = c.in-Some-halves_of.first in let second = c.in-Some-halves_of.second in
    let before = c.in_ok-before-in-Some-halves_of in let behind = c.in_ok-behind-in-Some-halves_of in
    let mid = c.in_ok-found-in-Some-halves_of in
    let front = subst (λ (xs : List Rect). AreClipped xs first before.before.items) c.as_slice-in-Some-halves_of.ensures.value before.ensures in
    let back = subst (λ (xs : List Rect). AreClipped xs second behind.behind.items) c.as_slice-in-Some-halves_of-2.ensures.value behind.ensures in
    IfOk-weaker c.with_twice-in-Some-halves_of.result (GainsPart (IsInTwo behind.behind.items) second mid.found) (GainsPart (IsInTwo rects) c.args.part c.args.found)
    (λ more. gains_halves (IsInTwo rects) c.args.part (IsInTwo before.before.items) (IsInTwo behind.behind.items) first second c.args.found mid.found more c.in-Some-halves_of.ensures
    (clipped_two rects first before.before.items front) (clipped_two rects second behind.behind.items back) mid.ensures)
    c.with_twice-in-Some-halves_of.ensures
