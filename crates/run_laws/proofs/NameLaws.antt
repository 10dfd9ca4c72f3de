-- a verdict looks at the named files alone
use Rattle.std.proofs.Common.{ℕ, ◌≡◌, ◌↔◌, List, [], refl, sym, ap, subst, ◌∙◌}
use Rattle.lists.proofs.Containing.{Contains-head}
use Rattle.first_refusal.specs.Outcomes.{Outcome, reads, lacks, Then, stops, goes_on}
use Rattle.command_line.specs.Requests.{Ask}
use Rattle.command_line.specs.declared.request.Request.{Request}
use Rattle.command_line.specs.declared.task.Task.{Task}
use Rattle.command_line.specs.declared.task.Task.TheVariants.{OneMetal, Mapped, Generated, Pairs, Probe, Regions}
use Rattle.command_line.proofs.laws.Requests.{requests_agree}
use Rattle.critarea_core.specs.Contents.{Contents, bytes_from, layout_source, wanted_top}
use Rattle.map_model.specs.MapNames.{LayerMap}
use Rattle.critarea_core.specs.Inquiries.{Inquiry, QueryComesTo}
use Rattle.critarea_core.specs.Verdict.{InquiryComesTo, IsVerdict, MapComesTo, MapTextComesTo}
use Rattle.run_inputs.specs.declared.refusal.Refusal.{Refusal}
use Rattle.run_laws.specs.NamedFiles.{HoldTheSame}

-- what a layout with these bytes comes to, where the task asks of it what it asks of this map
abbrev pub OnMapComesTo : Task → List ℕ → LayerMap → Outcome Inquiry Refusal → Type 0
OnMapComesTo task layout layer_map = Then (QueryComesTo task layer_map) (λ query. InquiryComesTo query layer_map (wanted_top task) layout)

-- the verdict on the task, where the words ask for it
abbrev pub TaskComesTo : Contents → Task → Outcome Inquiry Refusal → Type 0
TaskComesTo contents task = Then (MapComesTo task contents.map) (OnMapComesTo task (bytes_from contents.layout (layout_source task)))

module _ (contents other : Contents) (outcome : Outcome Inquiry Refusal) where
  -- the layout's file holds the same as a layout
  same_layout : (task : Task) (name : List ℕ) → contents.layout name ≡ other.layout name
      → Then (MapComesTo task other.map) (OnMapComesTo task (contents.layout name)) outcome → Then (MapComesTo task other.map) (OnMapComesTo task (other.layout name)) outcome
  same_layout task name same comes = subst (λ bytes. Then (MapComesTo task other.map) (OnMapComesTo task bytes) outcome) same comes

  -- and so does the map's
  same_map : (task : Task) (layout name : List ℕ) → contents.map name ≡ other.map name → contents.layout layout ≡ other.layout layout
      → Then (MapTextComesTo (contents.map name)) (OnMapComesTo task (contents.layout layout)) outcome → Then (MapTextComesTo (other.map name)) (OnMapComesTo task (other.layout layout)) outcome
  same_map task layout name map_same same comes =
      let moved = subst (λ bytes. Then (MapTextComesTo bytes) (OnMapComesTo task (contents.layout layout)) outcome) map_same comes in
      subst (λ bytes. Then (MapTextComesTo (other.map name)) (OnMapComesTo task bytes) outcome) same moved

  same_files_same_outcome : (task : Task) → HoldTheSame task contents other → TaskComesTo contents task outcome → TaskComesTo other task outcome
  same_files_same_outcome (OneMetal layout layer datatype radius top) same comes =
      same_layout (OneMetal layout layer datatype radius top) layout (same.layout layout (Contains-head layout [])) comes
  same_files_same_outcome (Mapped layout map top) same comes =
      same_map (Mapped layout map top) layout map (same.map map (Contains-head map [])) (same.layout layout (Contains-head layout [])) comes
  same_files_same_outcome (Generated columns) same comes = comes
  same_files_same_outcome (Pairs layout map top size) same comes =
      same_map (Pairs layout map top size) layout map (same.map map (Contains-head map [])) (same.layout layout (Contains-head layout [])) comes
  same_files_same_outcome (Probe layout map top cell) same comes =
      same_map (Probe layout map top cell) layout map (same.map map (Contains-head map [])) (same.layout layout (Contains-head layout [])) comes
  same_files_same_outcome (Regions layout map top kind layer size) same comes =
      same_map (Regions layout map top kind layer size) layout map (same.map map (Contains-head map []))
      (same.layout layout (Contains-head layout [])) comes

-- words that ask for a task come to what it comes to
module _ (words : List (List ℕ)) (request : Request) (task : Task) (asks : Ask words request) (is : request.task ≡ task)
    (contents : Contents) where
  of_verdict : (outcome : Outcome Inquiry Refusal) → IsVerdict words contents outcome → TaskComesTo contents task outcome
  of_verdict outcome (stops (lacks none)) = absurd (none request asks)
  of_verdict outcome (goes_on {v = this} (reads asked) comes) =
      let same : this ≡ request = requests_agree words this request asked asks in
      subst (λ task. TaskComesTo contents task outcome) (ap (λ (r : Request). r.task) same ∙ is) comes

  pub task_outcome : (outcome : Outcome Inquiry Refusal) → IsVerdict words contents outcome ↔ TaskComesTo contents task outcome
  task_outcome outcome = (
    of_verdict outcome,
    λ comes. goes_on {v = request} (reads asks) (subst (λ task. TaskComesTo contents task outcome) (sym is) comes),
  )

pub same_files_same_verdict : (words : List (List ℕ)) (request : Request) → Ask words request → (contents other : Contents) → HoldTheSame request.task contents other
    → (outcome : Outcome Inquiry Refusal) → IsVerdict words contents outcome → IsVerdict words other outcome
same_files_same_verdict words request asks contents other same outcome verdict =
    let comes = (task_outcome words request request.task asks refl contents outcome).0 verdict in
    (task_outcome words request request.task asks refl other outcome).1 (same_files_same_outcome contents other outcome request.task same comes)
