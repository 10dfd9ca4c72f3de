-- each stage of the verdict has one outcome at most
use Rattle.std.proofs.Common.{ℕ, ◌≡◌, List, length, map, slice_get, sym, ap, arith, inl, inr, ◌∙◌, Option}
use Rattle.lists.proofs.Words.{cases_lt}
use Rattle.first_refusal.specs.Outcomes.{Retold}
use Rattle.first_refusal.specs.Laws.{IsUnique}
use Rattle.first_refusal.proofs.CheckLaws.{checks_agree}
use Rattle.first_refusal.proofs.StageLaws.{readings_agree, retold_agree, stages_agree}
use Rattle.lists.proofs.Words.{enumerate_from}
use Rattle.command_line.specs.Requests.{Ask}
use Rattle.command_line.specs.declared.task.Task.{Task}
use Rattle.command_line.specs.declared.task.Task.TheVariants.{OneMetal, Mapped, Generated, Pairs, Probe, Regions}
use Rattle.command_line.proofs.laws.Requests.{requests_agree}
use Rattle.library_model.specs.declared.library.Library.{Library}
use Rattle.library_grammar.specs.FirstFault.{BytesComeTo}
use Rattle.library_grammar.proofs.laws.Libraries.{libraries_agree}
use Rattle.flatten.specs.Placements.{Placing}
use Rattle.flatten.specs.Routes.{Route}
use Rattle.flatten.proofs.laws.Placings.{placings_agree}
use Rattle.layer_map.specs.Documents as document
use Rattle.layer_map.proofs.laws.Maps.{maps_agree}
use Rattle.layout_gen.specs.Generated.{generated_map}
use Rattle.map_model.specs.MapNames.{LayerMap}
use Rattle.run_inputs.specs.Contents.{Contents, bytes_from, layout_source, wanted_top}
use Rattle.run_inputs.specs.Layout.{Subject, RouteHolds, route_checks, route_fault, RoutesComeTo, LibraryComesTo, IsTerminalOn, terminal_fault, ShapesComeTo, ShortLayoutComesTo, TerminalsComeTo}
use Rattle.run_inputs.specs.Inquiries.{ArePairsAsked, IsLayerNamed, IsRegionAsked, IsSizeNumbered, QueryComesTo, RegionComesTo}
use Rattle.run_inputs.specs.Refusals.{usage, map_limit, map_too_long, of_map_fault, layout_limit, layout_too_long, no_such_layer, no_such_size}
use Rattle.run_inputs.specs.Refusals.{of_layout_fault}
use Rattle.questions.specs.declared.kind.Kind.{Kind}
use Rattle.run_inputs.specs.Verdict.{IsShortEnough, ShortMapComesTo, MapTextComesTo, MapComesTo, WordsComeTo, LayoutComesTo, InquiryComesTo, IsVerdict}
use Rattle.run_inputs.specs.declared.layout_fault.LayoutFault.TheVariants.{Place, Syntax}
use Rattle.run_inputs.specs.declared.query.ListedSize.{ListedSize}
use Rattle.run_inputs.specs.declared.query.Query.{Query}
use Rattle.run_inputs.specs.declared.query.Query.TheVariants.{Pairs as for_pairs, Region as for_region}

words_agree : (words : List (List ℕ)) → IsUnique (WordsComeTo words)
words_agree words = readings_agree (Ask words) usage (requests_agree words)

lengths_agree : (limit : ℕ) (text : List ℕ) → IsUnique (IsShortEnough limit text)
lengths_agree limit text one other a b = a.is_text ∙ sym b.is_text

short_maps_agree : (text : List ℕ) → IsUnique (ShortMapComesTo text)
short_maps_agree text = retold_agree of_map_fault (document.MapComesTo text) (maps_agree text)

map_texts_agree : (bytes : List ℕ) → IsUnique (MapTextComesTo bytes)
map_texts_agree bytes = stages_agree _ _ (readings_agree (IsShortEnough map_limit bytes) map_too_long (lengths_agree map_limit bytes)) short_maps_agree

map_outcomes_agree : (task : Task) (bytes : List ℕ → List ℕ) → IsUnique (MapComesTo task bytes)
map_outcomes_agree (OneMetal layout layer datatype radius top) bytes one other a b = a ∙ sym b
map_outcomes_agree (Mapped layout map top) bytes one other a b = map_texts_agree (bytes map) one other a b
map_outcomes_agree (Generated columns) bytes one other a b = map_texts_agree generated_map one other a b
map_outcomes_agree (Pairs layout map top size) bytes one other a b = map_texts_agree (bytes map) one other a b
map_outcomes_agree (Probe layout map top cell) bytes one other a b = map_texts_agree (bytes map) one other a b
map_outcomes_agree (Regions layout map top kind layer size) bytes one other a b = map_texts_agree (bytes map) one other a b

-- a map has one size under a number
sizes_agree : (layer_map : LayerMap) (number : ℕ) → IsUnique (IsSizeNumbered layer_map number)
sizes_agree layer_map number one other p q =
    let place : one.place ≡ other.place = omega (arith, p.counted, q.counted) in
    let sizes : List ℕ = map (λ listed. listed.size) layer_map.sizes in
    let size : one.size ≡ other.size = cc (sym p.listed ∙ ap (λ k. slice_get sizes k) place ∙ q.listed) in
    let Size : ℕ → ℕ → ListedSize = λ k n. record { place = k; size = n } in
    ap (λ k. Size k one.size) place ∙ ap (Size other.place) size

pairs_asked_agree : (layer_map : LayerMap) (number : ℕ) → IsUnique (ArePairsAsked layer_map number)
pairs_asked_agree layer_map number one other a b =
    a.is_asked ∙ ap for_pairs (sizes_agree layer_map number a.size b.size a.numbered b.numbered) ∙ sym b.is_asked

-- and one layer of a name
layers_agree : (layer_map : LayerMap) (kind : Kind) (name : List ℕ) → IsUnique (IsLayerNamed layer_map kind name)
layers_agree layer_map kind name one other a b = elim (cases_lt one other) [
  | inl before ↦ absurd (b.first one before a.has_name)
  | inr behind ↦ elim (cases_lt other one) [ inl before ↦ absurd (a.first other before b.has_name) | inr least ↦ omega (arith, behind, least) ]
]

regions_asked_agree : (layer_map : LayerMap) (kind : Kind) (name : List ℕ) (size : ListedSize) → IsUnique (IsRegionAsked layer_map kind name size)
regions_asked_agree layer_map kind name size one other a b =
    a.is_asked ∙ ap (λ number. for_region kind number size) (layers_agree layer_map kind name a.number b.number a.is_named b.is_named) ∙ sym b.is_asked

regions_agree : (layer_map : LayerMap) (kind : Kind) (name : List ℕ) (number : ℕ) → IsUnique (RegionComesTo layer_map kind name number)
regions_agree layer_map kind name number =
    stages_agree _ _ (readings_agree (IsSizeNumbered layer_map number) (no_such_size (length layer_map.sizes)) (sizes_agree layer_map number))
    (λ size. readings_agree (IsRegionAsked layer_map kind name size) no_such_layer (regions_asked_agree layer_map kind name size))

-- and a task asks one thing of it
queries_agree : (task : Task) (layer_map : LayerMap) → IsUnique (QueryComesTo task layer_map)
queries_agree (OneMetal layout layer datatype radius top) layer_map one other a b = a ∙ sym b
queries_agree (Mapped layout map top) layer_map one other a b = a ∙ sym b
queries_agree (Generated columns) layer_map one other a b = a ∙ sym b
queries_agree (Pairs layout map top number) layer_map one other a b =
    readings_agree (ArePairsAsked layer_map number) (no_such_size (length layer_map.sizes)) (pairs_asked_agree layer_map number) one other a b
queries_agree (Probe layout map top cell) layer_map one other a b = a ∙ sym b
queries_agree (Regions layout map top kind layer number) layer_map one other a b = regions_agree layer_map kind layer number one other a b

-- the subject with these routes in a library of these units
abbrev pub subject_of : LayerMap → List ℕ → List Route → Subject
subject_of layer_map units routes = record { layer_map = layer_map; units = units; routes = routes }

libraries_agree_on : (layer_map : LayerMap) (wanted : Option (List ℕ)) (library : Library) → IsUnique (LibraryComesTo layer_map wanted library)
libraries_agree_on layer_map wanted library =
    stages_agree (Retold (λ fault. Place fault) (Placing library.structures layer_map wanted)) (RoutesComeTo layer_map library.units)
    (retold_agree (λ fault. Place fault) (Placing library.structures layer_map wanted) (placings_agree library.structures layer_map wanted))
    (λ routes. checks_agree RouteHolds (route_checks routes) route_fault (λ subject. subject ≡ subject_of layer_map library.units routes) (λ one other a b. a ∙ sym b))

terminals_agree : (subject : Subject) → IsUnique (TerminalsComeTo subject)
terminals_agree subject =
    checks_agree (IsTerminalOn subject) (enumerate_from 0 subject.layer_map.terminals) terminal_fault (λ same. same ≡ subject) (λ one other a b. a ∙ sym b)

pub short_layouts_agree : (layer_map : LayerMap) (wanted : Option (List ℕ)) (layout : List ℕ) → IsUnique (ShortLayoutComesTo layer_map wanted layout)
short_layouts_agree layer_map wanted layout =
    stages_agree (ShapesComeTo layer_map wanted layout) TerminalsComeTo
    (stages_agree _ _ (retold_agree (λ fault. Syntax fault) (BytesComeTo layout) (libraries_agree layout)) (libraries_agree_on layer_map wanted)) terminals_agree

pub layout_outcomes_agree : (layer_map : LayerMap) (wanted : Option (List ℕ)) (layout : List ℕ) → IsUnique (LayoutComesTo layer_map wanted layout)
layout_outcomes_agree layer_map wanted layout = stages_agree _ _ (readings_agree (IsShortEnough layout_limit layout) layout_too_long (lengths_agree layout_limit layout))
    (λ same. retold_agree of_layout_fault (ShortLayoutComesTo layer_map wanted same) (short_layouts_agree layer_map wanted same))

inquiries_agree : (query : Query) (layer_map : LayerMap) (wanted : Option (List ℕ)) (layout : List ℕ) → IsUnique (InquiryComesTo query layer_map wanted layout)
inquiries_agree query layer_map wanted layout =
    stages_agree (LayoutComesTo layer_map wanted layout) _ (layout_outcomes_agree layer_map wanted layout) (λ subject one other a b. a ∙ sym b)

pub verdicts_agree : (words : List (List ℕ)) (contents : Contents) → IsUnique (IsVerdict words contents)
verdicts_agree words contents = stages_agree (WordsComeTo words) _ (words_agree words)
    (λ request. stages_agree (MapComesTo request.task contents.map) _ (map_outcomes_agree request.task contents.map)
    (λ layer_map. stages_agree (QueryComesTo request.task layer_map) _ (queries_agree request.task layer_map)
    (λ query. inquiries_agree query layer_map (wanted_top request.task) (bytes_from contents.layout (layout_source request.task)))))
