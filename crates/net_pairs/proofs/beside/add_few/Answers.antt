use Rattle.std.proofs.Common.{List, subst, sym}
use Rattle.lists.proofs.Words.{on_ok_weaker}
use Rattle.geo_core.specs.declared.plane.Labelled.{Labelled}
use Rattle.net_pairs.specs.inside.PairGains.{IsInBoth}
use Rattle.net_pairs.specs.inside.RunsOfLabels.{AreRunsOf}
use Rattle.net_pairs.proofs.AreaLaws.{gains_by_runs}
use Rattle.net_pairs.proofs.GainLaws.{gains_same}
use Rattle.net_pairs.proofs.beside.add_few.Goals as goal

pub add_meetings-requires : goal.add_meetings-requires
add_meetings-requires c =
    let are = subst (AreRunsOf c.as_slice.result.now) (sym c.as_slice-2.ensures.value) c.in_ok-runs.ensures in are.apart

pub returns : goal.returns
returns c =
    let are = subst (λ (kept : List Labelled). AreRunsOf kept c.as_slice-2.result.now) c.as_slice.ensures.value (subst (AreRunsOf c.as_slice.result.now) (sym c.as_slice-2.ensures.value) c.in_ok-runs.ensures) in
    let kept = c.in_ok-kept.kept.items in
    on_ok_weaker c.add_meetings.result (λ gains. gains_same (IsInBoth kept) (IsInBoth c.args.zones.now) c.args.window _ _ (λ one other cell at. c.in_ok-kept.ensures one other cell)
    (gains_by_runs kept c.as_slice-2.result.now c.args.window _ _ are gains))
    c.add_meetings.ensures
