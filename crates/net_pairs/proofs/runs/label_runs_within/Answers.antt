use Rattle.std.proofs.Common.{List, AllPairs, subst, sym, ◌∙◌, ◌≤◌, ◌≡◌}
use Rattle.lists.proofs.Words.{IsPermutation}
use Rattle.geo_core.specs.declared.plane.Labelled.{Labelled}
use Rattle.geo_core.specs.declared.plane.Rect.{Rect}
use Rattle.net_pairs.specs.inside.RunsOfLabels.{AreRunsTo, GainsRuns}
use Rattle.net_pairs.proofs.RunLaws.{runs_all, runs_begun, runs_next, runs_same}
use Rattle.net_pairs.proofs.runs.label_runs_within.Goals as goal
use Rattle.net_pairs.proofs.runs.label_runs_within.Goals.{then-zone-label+in_ok-add_runs_within+else-not-branch, else-zone-label}

pub loop-zone-init : goal.loop-zone-init
loop-zone-init c = rw (c.new-runs.ensures.items, c.new-listed.ensures.items) (runs_begun c.as_slice-zone-items.result.now)

pub loop-zone-preserved : goal.loop-zone-preserved
loop-zone-preserved c =
    let sorted = c.as_slice-zone-items.result.now in
    let ordered : AllPairs (λ (a b : Labelled). a.label ≤ b.label) sorted
    = subst (AllPairs (λ (a b : Labelled). a.label ≤ b.label)) (sym c.as_slice-zone-items.ensures.value) c.in_ok-sorted.ensures.ordered in
    let so_far : AreRunsTo sorted c.loop-zone.zone-index c.if-zone-label.label c.if-zone-label.runs.items c.if-zone-label.listed.items =
    elim c.if-zone-label.branch [
      | then-zone-label+in_ok-add_runs_within+else-not-branch w ↦ rw (w.runs-is, w.listed-is, w.label-is, w.clear.ensures.items) (runs_next _ _ _ _ _ c.loop-zone.invariant
          c.zone-item.result c.loop-zone-test.true c.zone-item.is _
          (subst (λ (xs : List Rect). GainsRuns c.loop-zone.runs.items w.add_runs_within.new.runs.items xs c.loop-zone.label) w.as_slice.ensures.value
          (w.in_ok-add_runs_within.ensures w.if-not-branch.false)) w.if-zone-label.true ordered)
      | else-zone-label w ↦ rw (w.runs-is, w.listed-is, w.label-is) c.loop-zone.invariant
    ] in
    let here : c.zone-item.result.label ≡ c.if-zone-label.label =
    elim c.if-zone-label.branch [
      | then-zone-label+in_ok-add_runs_within+else-not-branch w ↦ sym w.label-is
      | else-zone-label w ↦ w.if-zone-label.false ∙ sym w.label-is
    ] in
    runs_same _ _ _ _ _ so_far c.zone-item.result c.loop-zone-test.true c.zone-item.is _ c.in_ok-push.ensures.items here

pub returns : goal.returns
returns c =
    let moved = subst (λ (xs : List Labelled). IsPermutation c.args.zones.now xs) (sym c.as_slice-zone-items.ensures.value) c.in_ok-sorted.ensures.same in
    let gains = subst (λ (xs : List Rect). GainsRuns c.loop-zone.runs.items c.add_runs_within-2.new.runs.items xs c.loop-zone.label) c.as_slice-2.ensures.value
    (c.in_ok-add_runs_within-2.ensures c.if-not-branch-2.false) in
    runs_all c.args.zones.now c.as_slice-zone-items.result.now c.loop-zone.zone-index c.loop-zone.label c.loop-zone.runs.items c.loop-zone.listed.items c.add_runs_within-2.new.runs.items
    c.loop-zone-test.false moved c.loop-zone.invariant gains
