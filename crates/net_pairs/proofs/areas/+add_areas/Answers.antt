use Rattle.std.proofs.Common.{List, arith, refl, subst, sym}
use Rattle.lists.proofs.Words.{on_ok_weaker}
use Rattle.geo_core.specs.declared.plane.Labelled.{Labelled}
use Rattle.union_area.proofs.laws.PartLaws.{fewer_cells}
use Rattle.net_pairs.specs.inside.RunsOfLabels.{AreRunsOf}
use Rattle.net_pairs.specs.inside.PairSteps.{HaveOneLabel, HaveTwoLabels}
use Rattle.net_pairs.proofs.AreaLaws.{gains_by_runs, gains_of_one, gains_of_parts, gains_of_two}
use Rattle.net_pairs.proofs.areas.+add_areas.Goals as goal

pub add_areas-requires : goal.add_areas-requires
add_areas-requires t c = let fewer = fewer_cells c.args.window _ _ c.parts_at.ensures.parts in omega (arith, fewer.0)

pub add_areas-requires-in-Halve : goal.add_areas-requires-in-Halve
add_areas-requires-in-Halve t c = let fewer = fewer_cells c.args.window _ _ c.parts_at.ensures.parts in omega (arith, fewer.1)

pub returns-in-Nothing : goal.returns-in-Nothing
returns-in-Nothing t c = gains_of_one c.args.zones.items c.args.window _ _ (subst HaveOneLabel c.as_slice.ensures.value (rw c.in-Nothing.is at c.in_ok-next_step.ensures)) refl

pub returns-in-Few : goal.returns-in-Few
returns-in-Few t c = rw c.as_slice-in-Few.ensures.value at c.add_few.ensures

pub returns-in_ok-cells-in-Two : goal.returns-in_ok-cells-in-Two
returns-in_ok-cells-in-Two t c =
    let two = subst (λ (zones : List Labelled). HaveTwoLabels zones c.in-Two.one c.in-Two.other) c.as_slice.ensures.value (rw c.in-Two.is at c.in_ok-next_step.ensures) in
    on_ok_weaker c.add.result (gains_of_two c.args.zones.items c.in-Two.one c.in-Two.other two c.args.window c.in_ok-cells-in-Two.cells c.in_ok-cells-in-Two.ensures _ _) c.add.ensures

pub returns-in-Meet : goal.returns-in-Meet
returns-in-Meet t c =
    let of_zones = subst (λ (zones : List Labelled). AreRunsOf zones c.in-Meet.runs.items) c.as_slice.ensures.value (rw c.in-Meet.is at c.in_ok-next_step.ensures) in
    let are = subst (AreRunsOf c.args.zones.items) (sym c.as_slice-in-Meet.ensures.value) of_zones in
    on_ok_weaker c.add_runs.result (gains_by_runs c.args.zones.items c.as_slice-in-Meet.result.now c.args.window _ _ are) c.add_runs.ensures

pub returns-in_ok-add_areas-in-Halve : goal.returns-in_ok-add_areas-in-Halve
returns-in_ok-add_areas-in-Halve t c = on_ok_weaker c.add_areas-in-Halve.result
    (gains_of_parts c.args.zones.items c.in_ok-before-in-Halve.before.items c.in_ok-before-in-Halve.behind.items c.args.window _ _ c.args.sums.now.items.items c.add_areas.new.sums.items.items
    c.add_areas-in-Halve.new.sums.items.items c.parts_at.ensures.parts c.in_ok-before-in-Halve.ensures.first c.in_ok-before-in-Halve.ensures.second c.in_ok-add_areas-in-Halve.ensures)
    c.add_areas-in-Halve.ensures
