-- the verdict on words and on what files contain: the first refusal, or a layout and what is asked of it
use Rattle.std.specs.Prelude.{ℕ, List, ◌≡◌, ◌≤◌, length, Option}
use Rattle.first_refusal.specs.Outcomes.{Outcome, value, Reads, Retold, Then}
use Rattle.command_line.specs.Requests.{Ask}
use Rattle.command_line.specs.declared.request.Request.{Request}
use Rattle.command_line.specs.declared.task.Task.{Task}
use Rattle.command_line.specs.declared.task.Task.TheVariants.{OneMetal, Mapped, Generated, Pairs, Probe, Regions}
use Rattle.layer_map.specs.Documents as document
use Rattle.layout_gen.specs.Generated.{generated_map}
use Rattle.map_model.specs.MapNames.{LayerMap, one_metal_map}
use Rattle.run_inputs.specs.Contents.{Contents, bytes_from, layout_source, wanted_top}
use Rattle.run_inputs.specs.Inquiries.{Inquiry, QueryComesTo}
use Rattle.run_inputs.specs.Layout.{Subject, ShortLayoutComesTo}
use Rattle.run_inputs.specs.Refusals.{usage, map_limit, map_too_long, of_map_fault, layout_limit, layout_too_long, of_layout_fault}
use Rattle.run_inputs.specs.declared.query.Query.{Query}
use Rattle.run_inputs.specs.declared.refusal.Refusal.{Refusal}

-- the same text, where it has at most so many bytes
pub record IsShortEnough (limit : ℕ) (text same : List ℕ) : Type 0 where
  pub is_text : same ≡ text
  pub short : length text ≤ limit

-- the text of a map that is short enough: what it says
abbrev pub ShortMapComesTo : List ℕ → Outcome LayerMap Refusal → Type 0
ShortMapComesTo text = Retold of_map_fault (document.MapComesTo text)

-- the text of a map: first its length, and then what it says
abbrev pub MapTextComesTo : List ℕ → Outcome LayerMap Refusal → Type 0
MapTextComesTo bytes = Then (Reads (IsShortEnough map_limit bytes) map_too_long) ShortMapComesTo

-- the layer map of a task, where files that are read as maps contain this: that of one metal needs no file, and that of a
-- generated layout is read from a text that needs none
abbrev pub MapComesTo : Task → (List ℕ → List ℕ) → Outcome LayerMap Refusal → Type 0
MapComesTo (OneMetal layout layer datatype radius top) bytes outcome = outcome ≡ value (one_metal_map layer datatype radius)
MapComesTo (Mapped layout map top) bytes outcome = MapTextComesTo (bytes map) outcome
MapComesTo (Generated columns) bytes outcome = MapTextComesTo generated_map outcome
MapComesTo (Pairs layout map top size) bytes outcome = MapTextComesTo (bytes map) outcome
MapComesTo (Probe layout map top cell) bytes outcome = MapTextComesTo (bytes map) outcome
MapComesTo (Regions layout map top kind layer size) bytes outcome = MapTextComesTo (bytes map) outcome

-- the words: a request, or they fit no form of the command
abbrev pub WordsComeTo : List (List ℕ) → Outcome Request Refusal → Type 0
WordsComeTo words = Reads (Ask words) usage

-- the layout, of which a top is wanted: first its length, and then its bytes
abbrev pub LayoutComesTo : LayerMap → Option (List ℕ) → List ℕ → Outcome Subject Refusal → Type 0
LayoutComesTo layer_map wanted layout =
    Then (Reads (IsShortEnough layout_limit layout) layout_too_long)
    (λ same. Retold of_layout_fault (ShortLayoutComesTo layer_map wanted same))

-- the layout, and what is asked of it
abbrev pub InquiryComesTo : Query → LayerMap → Option (List ℕ) → List ℕ → Outcome Inquiry Refusal → Type 0
InquiryComesTo query layer_map wanted layout =
    Then (LayoutComesTo layer_map wanted layout) (λ subject outcome. outcome ≡ value (record { subject = subject; query = query }))

-- the verdict on words, where files contain this: first the words, then the map, then what the task asks of the map, and then the
-- layout, each of which is looked at only where what stands before it is good
abbrev pub IsVerdict : List (List ℕ) → Contents → Outcome Inquiry Refusal → Type 0
IsVerdict words contents =
    Then (WordsComeTo words) (λ request. Then (MapComesTo request.task contents.map)
    (λ layer_map. Then (QueryComesTo request.task layer_map)
    (λ query. InquiryComesTo query layer_map (wanted_top request.task) (bytes_from contents.layout (layout_source request.task)))))
