-- gauges are told what is asked alone
use Rattle.std.proofs.Common.{ℕ, ◌≡◌, List, [], ◌∷◌, subst}
use Rattle.std.proofs.Math.Seq.{take-nil}
use Rattle.first_refusal.specs.Outcomes.{value}
use Rattle.command_line.specs.Requests.{Ask}
use Rattle.command_line.specs.declared.request.Request.{Request}
use Rattle.gauges.specs.GaugeViews.{AreTold, AreToldPrefixes, GaugeView, IsTold}
use Rattle.gauges.proofs.laws.Told.{untold_same}
use Rattle.map_model.specs.MapNames.{LayerMap}
use Rattle.critarea_core.specs.Outputs.{Due, IsDueAs}
use Rattle.critarea_core.specs.Inquiries.{QueryComesTo}
use Rattle.run_inputs.specs.declared.query.Query.{Query}
use Rattle.run_inputs.specs.declared.query.Query.TheVariants.{Report as for_report, Pairs as for_pairs, Probe as for_probe, Region as for_region}
use Rattle.critarea_core.specs.Run.{AreToldAll, AreToldSome, EndsWith, Gauges, IsDueFor, Surroundings}
use Rattle.critarea_core.specs.Run as run
use Rattle.run_laws.specs.TaskRows.{GivesPairs, GivesReport}
use Rattle.run_laws.proofs.AskedLaws.{asked_of, not_for_pairs, not_for_report}

-- ---- gauges that are told the first few of no rows

module _ {Kind : Type 0} where
  few_of_none : (old new : List (GaugeView Kind)) → AreToldPrefixes [] old new → AreTold [] old new
  few_of_none [] [] told = tt
  few_of_none [] (y ∷ ys) told = absurd told
  few_of_none (x ∷ xs) [] told = absurd told
  few_of_none (x ∷ xs) (y ∷ ys) told = (subst (λ (rows : List Kind). IsTold rows x y) (take-nil told.0.0) told.0.1, few_of_none xs ys told.1)

  told_none : (rows : List Kind) (old new : List (GaugeView Kind)) → rows ≡ [] → AreTold rows old new → new ≡ old
  told_none rows old new none told = untold_same old new (subst (λ (rs : List Kind). AreTold rs old new) none told)

  told_few_of_none : (rows : List Kind) (old new : List (GaugeView Kind)) → rows ≡ [] → AreToldPrefixes rows old new → new ≡ old
  told_few_of_none rows old new none told = untold_same old new (few_of_none old new (subst (λ (rs : List Kind). AreToldPrefixes rs old new) none told))

-- ---- what is due to a task

-- nothing is due of a kind that the task does not give
module _ (words : List (List ℕ)) (met : Surroundings) (request : Request) (asks : Ask words request) where
  abbrev gauges : Gauges
  gauges = met.gauges

  module _ (due : Due) (is : IsDueFor words met due) where
    asked : (layer_map : LayerMap) × QueryComesTo request.task layer_map (value is.inquiry.query)
    asked = asked_of words is.comes.contents request is.inquiry asks is.comes.verdict

    no_rows_as : (what : Query) → (GivesReport request.task → ⊥) → QueryComesTo request.task asked.0 (value what)
        → IsDueAs what is.inquiry.subject gauges.of_rows.before gauges.of_pairs.before due → due.rows ≡ []
    no_rows_as for_report none fits is_due = absurd (not_for_report request.task asked.0 none fits)
    no_rows_as (for_pairs size) none fits is_due = is_due.no_rows
    no_rows_as (for_probe cell) none fits is_due = is_due.no_rows
    no_rows_as (for_region kind number size) none fits is_due = is_due.no_rows

    no_pairs_as : (what : Query) → (GivesPairs request.task → ⊥) → QueryComesTo request.task asked.0 (value what)
        → IsDueAs what is.inquiry.subject gauges.of_rows.before gauges.of_pairs.before due → due.pair_rows ≡ []
    no_pairs_as for_report none fits is_due = is_due.no_pairs
    no_pairs_as (for_pairs size) none fits is_due = absurd (not_for_pairs request.task asked.0 size none fits)
    no_pairs_as (for_probe cell) none fits is_due = is_due.no_pairs
    no_pairs_as (for_region kind number size) none fits is_due = is_due.no_pairs

    no_rows : (GivesReport request.task → ⊥) → due.rows ≡ []
    no_rows none = no_rows_as is.inquiry.query none asked.1 is.is_due

    no_pairs : (GivesPairs request.task → ⊥) → due.pair_rows ≡ []
    no_pairs none = no_pairs_as is.inquiry.query none asked.1 is.is_due

    -- so gauges of the one kind stay as they were where they are told all of this, or some
    rows_same : (GivesReport request.task → ⊥) → AreToldAll due gauges → gauges.of_rows.after ≡ gauges.of_rows.before
    rows_same none told = told_none due.rows gauges.of_rows.before gauges.of_rows.after (no_rows none) told.of_rows

    rows_same_so_far : (GivesReport request.task → ⊥) → AreToldSome due gauges → gauges.of_rows.after ≡ gauges.of_rows.before
    rows_same_so_far none told = told_few_of_none due.rows gauges.of_rows.before gauges.of_rows.after (no_rows none) told.of_rows

    pairs_same : (GivesPairs request.task → ⊥) → AreToldAll due gauges → gauges.of_pairs.after ≡ gauges.of_pairs.before
    pairs_same none told = told_none due.pair_rows gauges.of_pairs.before gauges.of_pairs.after (no_pairs none) told.of_pairs

    pairs_same_so_far : (GivesPairs request.task → ⊥) → AreToldSome due gauges → gauges.of_pairs.after ≡ gauges.of_pairs.before
    pairs_same_so_far none told = told_few_of_none due.pair_rows gauges.of_pairs.before gauges.of_pairs.after (no_pairs none) told.of_pairs

  -- ---- however the run ends

  pub rows_untold : (GivesReport request.task → ⊥) → (status : ℕ) → EndsWith words met status → gauges.of_rows.after ≡ gauges.of_rows.before
  rows_untold none status (run.reported {due = due} is calm takes idle told) = rows_same due is none told
  rows_untold none status (run.refused_input is calm idle takes untold) = untold.of_rows
  rows_untold none status (run.files_failed unsure risen idle also untold) = untold.of_rows
  rows_untold none status (run.report_cut_short {due = due} is calm fails idle told) = rows_same due is none told
  rows_untold none status (run.refusal_cut_short is calm idle fails untold) = untold.of_rows
  rows_untold none status (run.out_of_memory calm idle also untold) = untold.of_rows
  rows_untold none status (run.out_of_memory_with_rows {due = due} is calm idle also told) = rows_same_so_far due is none told

  pub pairs_untold : (GivesPairs request.task → ⊥) → (status : ℕ) → EndsWith words met status → gauges.of_pairs.after ≡ gauges.of_pairs.before
  pairs_untold none status (run.reported {due = due} is calm takes idle told) = pairs_same due is none told
  pairs_untold none status (run.refused_input is calm idle takes untold) = untold.of_pairs
  pairs_untold none status (run.files_failed unsure risen idle also untold) = untold.of_pairs
  pairs_untold none status (run.report_cut_short {due = due} is calm fails idle told) = pairs_same due is none told
  pairs_untold none status (run.refusal_cut_short is calm idle fails untold) = untold.of_pairs
  pairs_untold none status (run.out_of_memory calm idle also untold) = untold.of_pairs
  pairs_untold none status (run.out_of_memory_with_rows {due = due} is calm idle also told) = pairs_same_so_far due is none told
