-- what a task asks of its layout is of its own kind
use Rattle.std.proofs.Common.{ℕ, ◌≡◌, List, ap, refl, sym, subst}
use Rattle.first_refusal.specs.Outcomes.{goes_on, reads, value}
use Rattle.command_line.specs.Requests.{Ask}
use Rattle.command_line.specs.declared.request.Request.{Request}
use Rattle.command_line.specs.declared.task.Task.{Task}
use Rattle.command_line.specs.declared.task.Task.TheVariants.{OneMetal, Mapped, Generated, Pairs, Probe, Regions}
use Rattle.map_model.specs.MapNames.{LayerMap}
use Rattle.critarea_core.specs.Contents.{Contents}
use Rattle.critarea_core.specs.Inquiries.{Inquiry, QueryComesTo}
use Rattle.run_inputs.specs.declared.query.ListedSize.{ListedSize}
use Rattle.run_inputs.specs.declared.query.Query.{Query}
use Rattle.run_inputs.specs.declared.query.Query.TheVariants.{Report as for_report, Pairs as for_pairs, Probe as for_probe}
use Rattle.critarea_core.specs.Verdict.{IsVerdict}
use Rattle.run_laws.specs.AlikeDues.{IsForRegions}
use Rattle.run_laws.specs.TaskRows.{GivesPairs, GivesRegion, GivesReport}
use Rattle.run_laws.proofs.NameLaws.{TaskComesTo, task_outcome}

-- what words come to is asked as their task asks it
pub asked_of : (words : List (List ℕ)) (contents : Contents) (request : Request) (inquiry : Inquiry) → Ask words request
    → IsVerdict words contents (value inquiry) → (layer_map : LayerMap) × QueryComesTo request.task layer_map (value inquiry.query)
asked_of words contents request inquiry asks verdict =
    of_task ((task_outcome words request request.task asks refl contents (value inquiry)).0 verdict) where
      of_task : TaskComesTo contents request.task (value inquiry) → (layer_map : LayerMap) × QueryComesTo request.task layer_map (value inquiry.query)
      of_task (goes_on {v = layer_map} map (goes_on {v = what} fits (goes_on {v = subject} layout is))) =
          let of_what : inquiry ≡ record { subject = subject; query = what } = cc is in
          (layer_map, subst (λ (a : Query). QueryComesTo request.task layer_map (value a)) (sym (ap (λ (i : Inquiry). i.query) of_what)) fits)

-- a task that gives no report asks for none
pub not_for_report : (task : Task) (layer_map : LayerMap) → (GivesReport task → ⊥) → QueryComesTo task layer_map (value for_report) → ⊥
not_for_report (OneMetal layout layer datatype radius top) layer_map none fits = none tt
not_for_report (Mapped layout map top) layer_map none fits = none tt
not_for_report (Generated columns) layer_map none fits = none tt
not_for_report (Pairs layout map top size) layer_map none (reads asked) = cc asked.is_asked
not_for_report (Probe layout map top cell) layer_map none fits = cc fits
not_for_report (Regions layout map top kind layer size) layer_map none (goes_on numbered (reads asked)) = cc asked.is_asked

-- one that gives no pairs asks for none
pub not_for_pairs : (task : Task) (layer_map : LayerMap) (size : ListedSize) → (GivesPairs task → ⊥) → QueryComesTo task layer_map (value (for_pairs size)) → ⊥
not_for_pairs (OneMetal layout layer datatype radius top) layer_map size none fits = cc fits
not_for_pairs (Mapped layout map top) layer_map size none fits = cc fits
not_for_pairs (Generated columns) layer_map size none fits = cc fits
not_for_pairs (Pairs layout map top number) layer_map size none fits = none tt
not_for_pairs (Probe layout map top cell) layer_map size none fits = cc fits
not_for_pairs (Regions layout map top kind layer number) layer_map size none (goes_on numbered (reads asked)) = cc asked.is_asked

-- and one that gives no region asks for none
pub not_for_region : (task : Task) (layer_map : LayerMap) (what : Query) → (GivesRegion task → ⊥)
    → QueryComesTo task layer_map (value what) → IsForRegions what → ⊥
not_for_region (OneMetal layout layer datatype radius top) layer_map what none fits is = let same : what ≡ for_report = cc fits in subst IsForRegions same is
not_for_region (Mapped layout map top) layer_map what none fits is = let same : what ≡ for_report = cc fits in subst IsForRegions same is
not_for_region (Generated columns) layer_map what none fits is = let same : what ≡ for_report = cc fits in subst IsForRegions same is
not_for_region (Pairs layout map top size) layer_map what none (reads asked) is = subst IsForRegions asked.is_asked is
not_for_region (Probe layout map top cell) layer_map what none fits is = let same : what ≡ for_probe cell = cc fits in subst IsForRegions same is
not_for_region (Regions layout map top kind layer size) layer_map what none fits is = none tt
