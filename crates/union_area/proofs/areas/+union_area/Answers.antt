use Rattle.std.proofs.Common.{subst, sym, arith, ◌∙◌}
use Rattle.lists.proofs.Words.{IfOk-weaker}
use Rattle.geo_core.specs.Plane.{IsInUnion}
use Rattle.fault_model.specs.FaultNames.{Tally, cells_of}
use Rattle.union_area.specs.PartRects.{AreRectsOf}
use Rattle.union_area.specs.inside.PartCases.{HasCellsIn}
use Rattle.union_area.proofs.RestLaws.{tally_clipped, tally_none}
use Rattle.union_area.proofs.laws.PartLaws.{few_tallied, fewer_cells, parts_tally, whole_tally}
use Rattle.union_area.proofs.areas.+union_area.Goals as goal

pub returns-in-Nothing-clause-tally : goal.returns-in-Nothing-clause-tally
returns-in-Nothing-clause-tally t c = tally_none c.args.rects.now c.args.window (rw c.in-Nothing.is at c.in_ok-rest_of.ensures)

pub returns-in-All-clause-tally : goal.returns-in-All-clause-tally
returns-in-All-clause-tally t c = rw c.count_of.ensures.count (whole_tally c.args.window (rw c.in-All.is at c.in_ok-rest_of.ensures))

pub area_of_runs-requires : goal.area_of_runs-requires
area_of_runs-requires t c =
    let are : AreRectsOf (IsInUnion c.args.rects.now) c.args.window c.in-Runs.runs.items = rw c.in-Runs.is at c.in_ok-rest_of.ensures in
    let lent = subst (AreRectsOf (IsInUnion c.args.rects.now) c.args.window) (sym c.as_slice.ensures.value) are in
    record { apart = lent.apart; within = λ cell u. ((lent.cells cell).0 u).1 }

pub returns-in-Runs-clause-tally : goal.returns-in-Runs-clause-tally
returns-in-Runs-clause-tally t c =
    let are : AreRectsOf (IsInUnion c.args.rects.now) c.args.window c.in-Runs.runs.items = rw c.in-Runs.is at c.in_ok-rest_of.ensures in
    let lent = subst (AreRectsOf (IsInUnion c.args.rects.now) c.args.window) (sym c.as_slice.ensures.value) are in
    tally_clipped c.args.rects.now c.args.window c.as_slice.result.now lent.cells _ c.area_of_runs.ensures.tally

pub returns-in-Across-clause-tally : goal.returns-in-Across-clause-tally
returns-in-Across-clause-tally t c =
    let rest = rw c.in-Across.is at c.in_ok-rest_of.ensures in
    let clipped = subst (HasCellsIn c.args.rects.now c.args.window) (sym c.as_slice-in-Across.ensures.value) rest.0 in
    IfOk-weaker c.swept_area.result (Tally (IsInUnion c.as_slice-in-Across.result.now) (cells_of c.args.window))
    (Tally (IsInUnion c.args.rects.now) (cells_of c.args.window))
    (tally_clipped c.args.rects.now c.args.window c.as_slice-in-Across.result.now clipped) c.swept_area.ensures.tally

pub union_area-requires : goal.union_area-requires
union_area-requires t c =
    let rest = rw c.in-Halves.is at c.in_ok-rest_of.ensures in
    let fewer = fewer_cells c.args.window c.in-Halves.first c.in-Halves.second rest.1 in
    (omega (arith, fewer.0), tt)

pub union_area-requires-in-Halves : goal.union_area-requires-in-Halves
union_area-requires-in-Halves t c =
    let rest = rw c.in-Halves.is at c.in_ok-rest_of.ensures in
    let fewer = fewer_cells c.args.window c.in-Halves.first c.in-Halves.second rest.1 in
    (omega (arith, fewer.1), tt)

pub returns-in_ok-other-in-Halves-clause-tally : goal.returns-in_ok-other-in-Halves-clause-tally
returns-in_ok-other-in-Halves-clause-tally t c =
    let rest = rw c.in-Halves.is at c.in_ok-rest_of.ensures in
    let clipped = subst (HasCellsIn c.args.rects.now c.args.window) (sym c.as_slice-in-Halves.ensures.value) rest.0 in
    let again = c.as_slice-in-Halves.ensures.value ∙ sym c.as_slice-in-Halves-2.ensures.value in
    tally_clipped c.args.rects.now c.args.window c.as_slice-in-Halves.result.now clipped _
    (parts_tally c.args.window c.in-Halves.first c.in-Halves.second rest.1 _ _ c.in_ok-one-in-Halves.ensures.tally
    (rw again c.in_ok-other-in-Halves.ensures.tally))

pub returns-in_ok-other-in-Halves-clause-small : goal.returns-in_ok-other-in-Halves-clause-small
returns-in_ok-other-in-Halves-clause-small t c =
    let rest = rw c.in-Halves.is at c.in_ok-rest_of.ensures in
    let again = c.as_slice-in-Halves.ensures.value ∙ sym c.as_slice-in-Halves-2.ensures.value in
    few_tallied c.args.window _
    (parts_tally c.args.window c.in-Halves.first c.in-Halves.second rest.1 _ _ c.in_ok-one-in-Halves.ensures.tally
    (rw again c.in_ok-other-in-Halves.ensures.tally))
