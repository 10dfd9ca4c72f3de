use denote.Param.Object.{read_made}
use Rattle.std.proofs.Common.{[], ◌≡◌, ◌∙◌, ap, refl}
use Rattle.critarea_core.proofs.laws.FreshRuns.{one_fresh, runs_fresh, runs_nowhere}
use Rattle.csv_report.specs.CsvText.{csv_text}
use Rattle.csv_report.proofs.run_gauged.OwnLists.{own-1, at-1-1}
use Rattle.csv_report.proofs.run_gauged.Goals as goal

pub returns-in_default : goal.returns-in_default
returns-in_default g c = runs_nowhere c.args.words.now _ _ _ _ _ _ _ _ _ _ _ _

-- what a box tells of itself is what the gauge in it tells: `own-1` has the type that this function boxes, at this place
pub returns : goal.returns
returns g c =
    let none : c.in-Ok.csv.value.rows.items ≡ [] = ap (λ gauge. gauge.rows.items) c.in-Ok.ensures.ok ∙ c.new.ensures in
    let made = c.into_dyn_box.ensures.1 in
    runs_fresh _ _ _ _ _ _ _ _ _
    (one_fresh _ csv_text (read_made own-1 _ at-1-1 refl _ (λ j v. j.1.seen v) _ _ _ made ∙ none) (read_made own-1 _ at-1-1 refl _ (λ j v. j.1.text v) _ _ _ made))
    refl c.run_boxed.ensures
