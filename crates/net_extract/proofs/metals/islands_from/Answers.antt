use Rattle.std.proofs.Common.{ap, arith, length, subst, sym, ◌+◌, ◌≤◌}
use Rattle.lists.proofs.Words.{IfOk-weaker}
use Rattle.skyline_runs.specs.Runs.{HaveSameCells}
use Rattle.net_extract.proofs.SlimLaws.{islands_alike}
use Rattle.net_extract.proofs.metals.islands_from.Goals as goal

pub islands_among-requires : goal.islands_among-requires
islands_among-requires c = omega (arith, c.in_ok-merged.ensures.few, ap length c.deref.ensures.value)

pub returns-then-lie_on_one_another : goal.returns-then-lie_on_one_another
returns-then-lie_on_one_another c =
    let rects = c.args.rects.now in
    let merged = c.deref.result.now in
    let same = subst (HaveSameCells rects) (sym c.deref.ensures.value) c.in_ok-merged.ensures.same in
    let few : c.args.first + length merged ≤ c.args.first + length rects = omega (arith, c.in_ok-merged.ensures.few, ap length c.deref.ensures.value) in
    IfOk-weaker _ _ _ (λ islands are. islands_alike rects merged _ _ _ islands same few are) c.islands_among.ensures
