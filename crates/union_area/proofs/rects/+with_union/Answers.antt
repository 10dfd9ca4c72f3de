use Rattle.std.proofs.Common.{subst, sym, arith, refl, List, [], ◌∷◌}
use Rattle.lists.proofs.Words.{IfOk-weaker}
use Rattle.geo_core.specs.Plane.{IsInUnion}
use Rattle.geo_core.specs.declared.plane.Rect.{Rect}
use Rattle.skyline_runs.specs.Runs.{HaveSameCells}
use Rattle.union_area.specs.PartRects.{AreRectsOf, GainsPart}
use Rattle.union_area.specs.WindowParts.{AreParts}
use Rattle.union_area.proofs.RestLaws.{gains_both, rects_of_runs}
use Rattle.union_area.proofs.laws.GainLaws.{gains_if_ok, gains_none, rects_whole}
use Rattle.union_area.proofs.laws.PartLaws.{fewer_cells}
use Rattle.union_area.proofs.rects.+with_union.Goals as goal

pub returns-in-Nothing : goal.returns-in-Nothing
returns-in-Nothing t c = gains_none (IsInUnion c.args.rects.now) c.args.window c.args.found (rw c.in-Nothing.is at c.in_ok-rest_of.ensures)

pub returns-in-All : goal.returns-in-All
returns-in-All t c =
    let whole = rects_whole (IsInUnion c.args.rects.now) c.args.window (c.args.window ∷ []) refl (rw c.in-All.is at c.in_ok-rest_of.ensures) in
    gains_if_ok (IsInUnion c.args.rects.now) c.args.window c.args.found (c.args.window ∷ []) c.with.result whole
    c.with.ensures.same c.with.ensures.apart

pub returns-in-Runs : goal.returns-in-Runs
returns-in-Runs t c =
    let are : AreRectsOf (IsInUnion c.args.rects.now) c.args.window c.in-Runs.runs.items = rw c.in-Runs.is at c.in_ok-rest_of.ensures in
    let lent = subst (AreRectsOf (IsInUnion c.args.rects.now) c.args.window) (sym c.as_slice.ensures.value) are in
    gains_if_ok (IsInUnion c.args.rects.now) c.args.window c.args.found c.as_slice.result.now c.with-in-Runs.result lent
    c.with-in-Runs.ensures.same c.with-in-Runs.ensures.apart

pub returns-in-None : goal.returns-in-None
returns-in-None t c =
    let rest = rw c.in-Across.is at c.in_ok-rest_of.ensures in
    let same = subst (λ (inside : List Rect). HaveSameCells inside c.in_ok-runs-in-None.runs.items)
    c.as_slice-in-None.ensures.value c.in_ok-runs-in-None.ensures.same in
    let are = rects_of_runs c.args.rects.now c.args.window c.in-Across.inside.items c.in_ok-runs-in-None.runs.items
    rest.0 same c.in_ok-runs-in-None.ensures.apart in
    let lent = subst (AreRectsOf (IsInUnion c.args.rects.now) c.args.window) (sym c.as_slice-in-None-2.ensures.value) are in
    gains_if_ok (IsInUnion c.args.rects.now) c.args.window c.args.found c.as_slice-in-None-2.result.now c.with-in-None.result lent
    c.with-in-None.ensures.same c.with-in-None.ensures.apart

pub with_union-requires : goal.with_union-requires
with_union-requires t c =
    let rest = rw c.in-Across.is at c.in_ok-rest_of.ensures in
    let parts : AreParts c.args.window c.in-Some.first c.in-Some.second = rw c.in-Some.is at rest.1 in
    let fewer = fewer_cells c.args.window c.in-Some.first c.in-Some.second parts in
    (omega (arith, fewer.0), tt)

pub with_union-requires-in-Some : goal.with_union-requires-in-Some
with_union-requires-in-Some t c =
    let rest = rw c.in-Across.is at c.in_ok-rest_of.ensures in
    let parts : AreParts c.args.window c.in-Some.first c.in-Some.second = rw c.in-Some.is at rest.1 in
    let fewer = fewer_cells c.args.window c.in-Some.first c.in-Some.second parts in
    (omega (arith, fewer.1), tt)

pub returns-in-Across : goal.returns-in-Across
returns-in-Across t c =
    let rest = rw c.in-Across.is at c.in_ok-rest_of.ensures in
    let parts : AreParts c.args.window c.in-Some.first c.in-Some.second = rw c.in-Some.is at rest.1 in
    let inside = c.in-Across.inside.items in
    let mid = c.in_ok-found-in-Some.found in
    let front = subst (λ (xs : List Rect). GainsPart (IsInUnion xs) c.in-Some.first c.args.found mid)
    c.as_slice-in-Some.ensures.value c.in_ok-found-in-Some.ensures in
    IfOk-weaker c.with_union-in-Some.result
    (λ more. GainsPart (IsInUnion c.as_slice-in-Some-2.result.now) c.in-Some.second mid more)
    (λ more. GainsPart (IsInUnion c.args.rects.now) c.args.window c.args.found more)
    (λ more back. gains_both c.args.rects.now c.args.window inside rest.0 c.in-Some.first c.in-Some.second parts c.args.found mid more front
    (subst (λ (xs : List Rect). GainsPart (IsInUnion xs) c.in-Some.second mid more) c.as_slice-in-Some-2.ensures.value back))
    c.with_union-in-Some.ensures

pub with_union-requires-in-Halves : goal.with_union-requires-in-Halves
with_union-requires-in-Halves t c =
    let rest = rw c.in-Halves.is at c.in_ok-rest_of.ensures in
    let fewer = fewer_cells c.args.window c.in-Halves.first c.in-Halves.second rest.1 in
    (omega (arith, fewer.0), tt)

pub with_union-requires-in-Halves-2 : goal.with_union-requires-in-Halves-2
with_union-requires-in-Halves-2 t c =
    let rest = rw c.in-Halves.is at c.in_ok-rest_of.ensures in
    let fewer = fewer_cells c.args.window c.in-Halves.first c.in-Halves.second rest.1 in
    (omega (arith, fewer.1), tt)

pub returns : goal.returns
returns t c =
    let rest = rw c.in-Halves.is at c.in_ok-rest_of.ensures in
    let inside = c.in-Halves.inside.items in
    let mid = c.in_ok-found-in-Halves.found in
    let front = subst (λ (xs : List Rect). GainsPart (IsInUnion xs) c.in-Halves.first c.args.found mid)
    c.as_slice-in-Halves.ensures.value c.in_ok-found-in-Halves.ensures in
    IfOk-weaker c.with_union-in-Halves-2.result
    (λ more. GainsPart (IsInUnion c.as_slice-in-Halves-2.result.now) c.in-Halves.second mid more)
    (λ more. GainsPart (IsInUnion c.args.rects.now) c.args.window c.args.found more)
    (λ more back. gains_both c.args.rects.now c.args.window inside rest.0 c.in-Halves.first c.in-Halves.second rest.1 c.args.found mid more front
    (subst (λ (xs : List Rect). GainsPart (IsInUnion xs) c.in-Halves.second mid more) c.as_slice-in-Halves-2.ensures.value back))
    c.with_union-in-Halves-2.ensures
