use Rattle.std.proofs.Common.{List, subst}
use Rattle.geo_core.specs.declared.plane.Rect.{Rect}
use Rattle.skyline_runs.specs.Runs.{AreApart, HaveSameCells}
use Rattle.union_area.proofs.RestLaws.{rects_of_runs}
use Rattle.union_area.proofs.part_case.rest_of.Goals as goal

pub returns-in-Some-2 : goal.returns-in-Some-2
returns-in-Some-2 c =
    let runs = c.in-Some-2.runs.items in
    let same : HaveSameCells c.as_slice-3.result.now runs = rw c.in-Some-2.is at c.in_ok-runs.ensures.same in
    let apart : AreApart runs = rw c.in-Some-2.is at c.in_ok-runs.ensures.apart in
    rects_of_runs c.args.rects.now c.args.part c.in_ok-inside.inside.items runs c.in_ok-inside.ensures
    (subst (λ (inside : List Rect). HaveSameCells inside runs) c.as_slice-3.ensures.value same) apart
