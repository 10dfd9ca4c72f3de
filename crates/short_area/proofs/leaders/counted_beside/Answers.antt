use Rattle.std.proofs.Common.{List, subst, sym}
use Rattle.geo_core.specs.declared.plane.Labelled.{Labelled}
use Rattle.geo_core.specs.declared.plane.Rect.{Rect}
use Rattle.short_area.specs.inside.LabelRuns.{AreRunsOf}
use Rattle.short_area.specs.inside.Leaders.{AreOthers, ArePartsIn}
use Rattle.short_area.proofs.LeaderLaws.{count_by_leader}
use Rattle.short_area.proofs.leaders.counted_beside.Goals as goal

pub returns : goal.returns
returns c =
    let zones = c.args.zones.now in let leader = c.args.leader in
    let others = c.as_slice-others.result.now in
    count_by_leader zones others leader c.bounds_of.result c.as_slice.result.now c.as_slice-2.result.now
    (subst (λ (xs : List Labelled). AreOthers zones leader xs) (sym c.as_slice-others.ensures.value) c.in_ok-others.ensures)
    c.bounds_of.ensures
    (subst (λ (xs : List Rect). ArePartsIn zones leader c.bounds_of.result xs) (sym c.as_slice.ensures.value) c.in_ok-own.ensures)
    (subst (λ (xs : List Rect). AreRunsOf others xs) (sym c.as_slice-2.ensures.value) (rw c.in-Some.is at c.in_ok-runs.ensures))
    c.args.window c.in_ok-count.count c.in_ok-count.ensures.tally c.in_ok-count.ensures.small
