use Rattle.std.proofs.Common.{arith, refl, subst, sym, List, [], ◌∷◌, ◌↔◌}
use Rattle.lists.proofs.Words.{IfOk-weaker}
use Rattle.geo_core.specs.Plane.{Has, IsInUnion}
use Rattle.geo_core.specs.declared.plane.Cell.{Cell}
use Rattle.geo_core.specs.declared.plane.Labelled.{Labelled}
use Rattle.geo_core.specs.declared.plane.Rect.{Rect}
use Rattle.skyline_runs.specs.Runs.{IsInTwo}
use Rattle.union_area.specs.PartRects.{AreRectsOf, GainsPart}
use Rattle.union_area.proofs.laws.GainLaws.{gains_halves, gains_if_ok, gains_none, rects_alike, rects_whole}
use Rattle.union_area.proofs.laws.PartLaws.{fewer_cells}
use Rattle.short_area.specs.Zones.{IsInTwoLabels}
use Rattle.short_area.specs.inside.WhatIsLeft.{IsLeftOf}
use Rattle.short_area.proofs.ListLaws.{gains_alike}
use Rattle.short_area.proofs.ZoneLaws.{alike_in}
use Rattle.short_area.proofs.rects.+with_shorts.Goals as goal

pub returns-in-Nothing : goal.returns-in-Nothing
returns-in-Nothing t c =
    let left = subst (λ (zs : List Labelled). IsLeftOf zs c.args.part c.in_ok-left_of.field-0) c.as_slice.ensures.value c.in_ok-left_of.ensures in
    gains_none (IsInTwoLabels c.args.zones.items) c.args.part c.args.found (rw c.in-Nothing.is at left)

pub returns-in-All : goal.returns-in-All
returns-in-All t c =
    let left = subst (λ (zs : List Labelled). IsLeftOf zs c.args.part c.in_ok-left_of.field-0) c.as_slice.ensures.value c.in_ok-left_of.ensures in
    let wanted = IsInTwoLabels c.args.zones.items in
    gains_if_ok wanted c.args.part c.args.found (c.args.part ∷ []) c.with.result (rects_whole wanted c.args.part (c.args.part ∷ []) refl (rw c.in-All.is at left))
    c.with.ensures.same c.with.ensures.apart

pub returns-in_ok-union-in-InOne : goal.returns-in_ok-union-in-InOne
returns-in_ok-union-in-InOne t c =
    let left = subst (λ (zs : List Labelled). IsLeftOf zs c.args.part c.in_ok-left_of.field-0) c.as_slice.ensures.value c.in_ok-left_of.ensures in
    let wanted = IsInTwoLabels c.args.zones.items in
    let rects = c.as_slice-in-InOne.result.now in
    let cells : (d : Cell) → Has c.args.part d → IsInUnion c.in-InOne.rects.items d ↔ wanted d = rw c.in-InOne.is at left in
    let lent = subst (λ (xs : List Rect). (d : Cell) → Has c.args.part d → IsInUnion xs d ↔ wanted d) (sym c.as_slice-in-InOne.ensures.value) cells in
    let union = c.in_ok-union-in-InOne in
    let are = rects_alike wanted c.args.part (IsInUnion rects) union.union.items lent (record { cells = union.ensures.cells; apart = union.ensures.apart }) in
    gains_if_ok wanted c.args.part c.args.found c.as_slice-in-InOne-2.result.now c.with-in-InOne.result
    (subst (AreRectsOf wanted c.args.part) (sym c.as_slice-in-InOne-2.ensures.value) are) c.with-in-InOne.ensures.same c.with-in-InOne.ensures.apart

pub returns-in-InTwo : goal.returns-in-InTwo
returns-in-InTwo t c =
    let left = subst (λ (zs : List Labelled). IsLeftOf zs c.args.part c.in_ok-left_of.field-0) c.as_slice.ensures.value c.in_ok-left_of.ensures in
    gains_alike (IsInTwoLabels c.args.zones.items) (IsInTwo c.in-InTwo.runs.items) c.args.part c.args.found c.with_twice.result (rw c.in-InTwo.is at left) c.with_twice.ensures

pub returns-in_ok-runs-in-InBoth : goal.returns-in_ok-runs-in-InBoth
returns-in_ok-runs-in-InBoth t c =
    let runs = c.in_ok-runs-in-InBoth.runs.items in
    let cells = subst (λ (zs : List Labelled). (d : Cell) → Has c.args.part d → IsInTwo runs d ↔ IsInTwoLabels zs d) c.as_slice-in-InBoth.ensures.value c.in_ok-runs-in-InBoth.ensures in
    gains_alike (IsInTwoLabels c.args.zones.items) (IsInTwo runs) c.args.part c.args.found c.with_twice-in-InBoth.result cells c.with_twice-in-InBoth.ensures

pub with_shorts-requires : goal.with_shorts-requires
with_shorts-requires t c = let fewer = fewer_cells c.args.part _ _ c.parts_at.ensures.parts in (omega (arith, fewer.0), tt)

pub with_shorts-requires-in-InHalves : goal.with_shorts-requires-in-InHalves
with_shorts-requires-in-InHalves t c = let fewer = fewer_cells c.args.part _ _ c.parts_at.ensures.parts in (omega (arith, fewer.1), tt)

pub returns-in_ok-found-in-InHalves : goal.returns-in_ok-found-in-InHalves
returns-in_ok-found-in-InHalves t c =
    let zones = c.args.zones.items in
    let halves = c.in_ok-before-in-InHalves in
    let first = c.parts_at.result.0 in let second = c.parts_at.result.1 in
    let mid = c.in_ok-found-in-InHalves.found in
    IfOk-weaker c.with_shorts-in-InHalves.result (GainsPart (IsInTwoLabels halves.behind.items) second mid) (GainsPart (IsInTwoLabels zones) c.args.part c.args.found)
    (λ more. gains_halves (IsInTwoLabels zones) c.args.part (IsInTwoLabels halves.before.items) (IsInTwoLabels halves.behind.items) first second c.args.found mid more c.parts_at.ensures.parts
    (alike_in first zones halves.before.items halves.ensures.first) (alike_in second zones halves.behind.items halves.ensures.second) c.in_ok-found-in-InHalves.ensures)
    c.with_shorts-in-InHalves.ensures
