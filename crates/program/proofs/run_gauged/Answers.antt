use denote.Param.Object.{read_made}
use Rattle.std.proofs.Common.{[], ◌≡◌, ◌∙◌, refl}
use Rattle.gauges.specs.NonzeroText.{nonzero_text}
use Rattle.gauges.specs.PeakText.{peak_text}
use Rattle.gauges.specs.WorstText.{worst_text}
use Rattle.critarea_core.proofs.laws.FreshRuns.{one_fresh, two_fresh, runs_fresh, runs_nowhere}
use Rattle.program.proofs.run_gauged.OwnLists.{own-1, own-2, at-1-1, at-1-2, at-2-1}
use Rattle.program.proofs.run_gauged.Goals as goal

pub returns-in_default : goal.returns-in_default
returns-in_default g c = runs_nowhere c.args.words.now _ _ _ _ _ _ _ _ _ _ _ _

-- what a box tells of itself is what the gauge in it tells: `own-1` and `own-2` have the types that this function boxes, at these places
pub returns : goal.returns
returns g c =
    let peak : c.in-Ok-Ok-Ok.peak.value ≡ [] = (rw c.in-Ok-Ok-Ok.is-0 at c.new-peak.ensures.ok) ∙ c.new.ensures in
    let nonzero : c.in-Ok-Ok-Ok.nonzero.value ≡ [] = (rw c.in-Ok-Ok-Ok.is-1 at c.new-nonzero.ensures.ok) ∙ c.new-2.ensures in
    let worst : c.in-Ok-Ok-Ok.worst.value ≡ [] = (rw c.in-Ok-Ok-Ok.is-2 at c.new-worst.ensures.ok) ∙ c.new-3.ensures in
    let made = c.into_dyn_box.ensures.1 in
    let also = c.into_dyn_box-2.ensures.1 in
    let pairs = c.into_dyn_box-3.ensures.1 in
    runs_fresh _ _ _ _ _ _ _ _ _
    (two_fresh _ _ peak_text nonzero_text
    (read_made own-1 _ at-1-1 refl _ (λ j v. j.1.seen v) _ _ _ made ∙ peak)
    (read_made own-1 _ at-1-1 refl _ (λ j v. j.1.text v) _ _ _ made)
    (read_made own-1 _ at-1-2 refl _ (λ j v. j.1.seen v) _ _ _ also ∙ nonzero)
    (read_made own-1 _ at-1-2 refl _ (λ j v. j.1.text v) _ _ _ also))
    (one_fresh _ worst_text
    (read_made own-2 _ at-2-1 refl _ (λ j v. j.1.pairs_seen v) _ _ _ pairs ∙ worst)
    (read_made own-2 _ at-2-1 refl _ (λ j v. j.1.pairs_text v) _ _ _ pairs))
    c.run_boxed.ensures
