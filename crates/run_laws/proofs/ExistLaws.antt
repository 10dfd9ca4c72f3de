-- no stage of the verdict can lack an outcome
use Rattle.std.proofs.Common.{ℕ, ◌≡◌, List, length, refl, sym, subst, Option}
use Rattle.first_refusal.specs.Outcomes.{value, Reads, reads, Retold}
use Rattle.first_refusal.specs.Laws.{CannotLack}
use Rattle.first_refusal.proofs.CheckLaws.{checks_cannot_lack}
use Rattle.first_refusal.proofs.StageLaws.{reading_cannot_lack, retold_cannot_lack, stages_cannot_lack}
use Rattle.library_model.specs.declared.library.Library.{Library}
use Rattle.library_grammar.specs.FirstFault.{BytesComeTo}
use Rattle.library_grammar.proofs.laws.Libraries.{bytes_come_to_something}
use Rattle.flatten.specs.Placements.{Placing}
use Rattle.flatten.proofs.laws.Placings.{placings_cannot_lack}
use Rattle.command_line.specs.Requests.{Ask}
use Rattle.command_line.specs.declared.request.Request.{Request}
use Rattle.command_line.specs.declared.task.Task.{Task}
use Rattle.command_line.specs.declared.task.Task.TheVariants.{OneMetal, Mapped, Generated, Pairs, Probe, Regions}
use Rattle.layer_map.specs.Documents as document
use Rattle.layer_map.proofs.laws.Maps.{maps_cannot_lack}
use Rattle.map_model.specs.MapNames.{LayerMap, one_metal_map}
use Rattle.questions.specs.declared.kind.Kind.{Kind}
use Rattle.layout_gen.specs.Generated.{generated_map}
use Rattle.layout_gen.proofs.laws.Generated.{generated_reads}
use Rattle.lists.specs.ByteLists.{AreBytes}
use Rattle.lists.proofs.Words.{enumerate_from}
use Rattle.critarea_core.specs.Contents.{Contents, bytes_from, file, layout_source, wanted_top}
use Rattle.critarea_core.specs.Inquiries.{ArePairsAsked, IsRegionAsked, IsSizeNumbered, QueryComesTo, RegionComesTo}
use Rattle.run_inputs.specs.declared.query.Query.{Query}
use Rattle.run_inputs.specs.declared.query.Query.TheVariants.{Probe as for_probe, Report as for_report}
use Rattle.critarea_core.specs.Layout.{Subject, RouteHolds, route_checks, route_fault, RoutesComeTo, LibraryComesTo, IsTerminalOn, terminal_fault, ShapesComeTo, ShortLayoutComesTo, TerminalsComeTo}
use Rattle.critarea_core.specs.Refusals.{usage, map_limit, map_too_long, of_map_fault, layout_limit, layout_too_long, of_layout_fault}
use Rattle.critarea_core.specs.Refusals.{no_such_layer, no_such_size}
use Rattle.critarea_core.specs.Verdict.{IsShortEnough, MapTextComesTo, MapComesTo, WordsComeTo, LayoutComesTo, InquiryComesTo, IsVerdict}
use Rattle.run_inputs.specs.declared.layout_fault.LayoutFault.TheVariants.{Place, Syntax}
use Rattle.run_inputs.proofs.laws.VerdictLaws.{subject_of}

-- ---- maps

map_text_cannot_lack : (bytes : List ℕ) → CannotLack (MapTextComesTo bytes)
map_text_cannot_lack bytes = stages_cannot_lack _ _ (reading_cannot_lack (IsShortEnough map_limit bytes) map_too_long)
    (λ text _. retold_cannot_lack of_map_fault (document.MapComesTo text) (maps_cannot_lack text))

map_cannot_lack : (task : Task) (bytes : List ℕ → List ℕ) → CannotLack (MapComesTo task bytes)
map_cannot_lack (OneMetal layout layer datatype radius top) bytes none = none (value (one_metal_map layer datatype radius)) refl
map_cannot_lack (Mapped layout map top) bytes none = map_text_cannot_lack (bytes map) none
map_cannot_lack (Generated columns) bytes none = map_text_cannot_lack generated_map none
map_cannot_lack (Pairs layout map top size) bytes none = map_text_cannot_lack (bytes map) none
map_cannot_lack (Probe layout map top cell) bytes none = map_text_cannot_lack (bytes map) none
map_cannot_lack (Regions layout map top kind layer size) bytes none = map_text_cannot_lack (bytes map) none

-- ---- what a task asks of a map

region_cannot_lack : (layer_map : LayerMap) (kind : Kind) (name : List ℕ) (number : ℕ) → CannotLack (RegionComesTo layer_map kind name number)
region_cannot_lack layer_map kind name number =
    stages_cannot_lack _ _ (reading_cannot_lack (IsSizeNumbered layer_map number) (no_such_size (length layer_map.sizes)))
    (λ size numbered. reading_cannot_lack (IsRegionAsked layer_map kind name size) no_such_layer)

query_cannot_lack : (task : Task) (layer_map : LayerMap) → CannotLack (QueryComesTo task layer_map)
query_cannot_lack (OneMetal layout layer datatype radius top) layer_map none = none (value for_report) refl
query_cannot_lack (Mapped layout map top) layer_map none = none (value for_report) refl
query_cannot_lack (Generated columns) layer_map none = none (value for_report) refl
query_cannot_lack (Pairs layout map top number) layer_map none = reading_cannot_lack (ArePairsAsked layer_map number) (no_such_size (length layer_map.sizes)) none
query_cannot_lack (Probe layout map top cell) layer_map none = none (value (for_probe cell)) refl
query_cannot_lack (Regions layout map top kind layer number) layer_map none = region_cannot_lack layer_map kind layer number none

-- ---- layouts

library_cannot_lack : (layer_map : LayerMap) (wanted : Option (List ℕ)) (library : Library) → CannotLack (LibraryComesTo layer_map wanted library)
library_cannot_lack layer_map wanted library =
    stages_cannot_lack (Retold (λ fault. Place fault) (Placing library.structures layer_map wanted)) (RoutesComeTo layer_map library.units)
    (retold_cannot_lack (λ fault. Place fault) (Placing library.structures layer_map wanted) (placings_cannot_lack library.structures layer_map wanted))
    (λ routes placing. let subject = subject_of layer_map library.units routes in
    checks_cannot_lack RouteHolds (route_checks routes) route_fault (λ same. same ≡ subject) (λ all none. none subject refl))

terminals_cannot_lack : (subject : Subject) → CannotLack (TerminalsComeTo subject)
terminals_cannot_lack subject =
    checks_cannot_lack (IsTerminalOn subject) (enumerate_from 0 subject.layer_map.terminals) terminal_fault (λ same. same ≡ subject) (λ all none. none subject refl)

-- the text of a layout that is short enough is the layout
text_of : (layout text : List ℕ) → Reads (IsShortEnough layout_limit layout) layout_too_long (value text) → text ≡ layout
text_of layout text (reads short) = short.is_text

layout_cannot_lack : (layer_map : LayerMap) (wanted : Option (List ℕ)) (layout : List ℕ) → CannotLack (BytesComeTo layout) → CannotLack (LayoutComesTo layer_map wanted layout)
layout_cannot_lack layer_map wanted layout some = stages_cannot_lack _ _ (reading_cannot_lack (IsShortEnough layout_limit layout) layout_too_long)
    (λ text short. retold_cannot_lack of_layout_fault (ShortLayoutComesTo layer_map wanted text) (stages_cannot_lack (ShapesComeTo layer_map wanted text) TerminalsComeTo
    (stages_cannot_lack _ _ (retold_cannot_lack (λ fault. Syntax fault) (BytesComeTo text) (subst (λ bytes. CannotLack (BytesComeTo bytes)) (sym (text_of layout text short)) some))
    (λ library comes. library_cannot_lack layer_map wanted library))
    (λ subject shapes. terminals_cannot_lack subject)))

inquiry_cannot_lack : (query : Query) (layer_map : LayerMap) (wanted : Option (List ℕ)) (layout : List ℕ) → CannotLack (BytesComeTo layout)
    → CannotLack (InquiryComesTo query layer_map wanted layout)
inquiry_cannot_lack query layer_map wanted layout some = stages_cannot_lack (LayoutComesTo layer_map wanted layout) _ (layout_cannot_lack layer_map wanted layout some)
    (λ subject comes none. none (value (record { subject = subject; query = query })) refl)

-- a layout that is a string of bytes, as that of a file is to be, and one that is generated
layout_there : (task : Task) (contents : Contents) → ((name : List ℕ) → layout_source task ≡ file name → AreBytes (contents.layout name))
    → CannotLack (BytesComeTo (bytes_from contents.layout (layout_source task)))
layout_there (OneMetal layout layer datatype radius top) contents are = bytes_come_to_something (contents.layout layout) (are layout refl)
layout_there (Mapped layout map top) contents are = bytes_come_to_something (contents.layout layout) (are layout refl)
layout_there (Pairs layout map top size) contents are = bytes_come_to_something (contents.layout layout) (are layout refl)
layout_there (Probe layout map top cell) contents are = bytes_come_to_something (contents.layout layout) (are layout refl)
layout_there (Regions layout map top kind layer size) contents are = bytes_come_to_something (contents.layout layout) (are layout refl)
layout_there (Generated columns) contents are = let read = generated_reads columns in λ none. none (value read.0) read.2

-- ---- words

asked_for : (words : List (List ℕ)) (request : Request) → WordsComeTo words (value request) → Ask words request
asked_for words request (reads asked) = asked

pub verdict_cannot_lack : (words : List (List ℕ)) (contents : Contents)
    → ((request : Request) (layer_map : LayerMap) (query : Query) (name : List ℕ) → Ask words request → MapComesTo request.task contents.map (value layer_map)
    → QueryComesTo request.task layer_map (value query) → layout_source request.task ≡ file name → AreBytes (contents.layout name)) → CannotLack (IsVerdict words contents)
verdict_cannot_lack words contents are = stages_cannot_lack (WordsComeTo words) _ (reading_cannot_lack (Ask words) usage)
    (λ request asks. stages_cannot_lack (MapComesTo request.task contents.map) _ (map_cannot_lack request.task contents.map)
    (λ layer_map good. stages_cannot_lack (QueryComesTo request.task layer_map) _ (query_cannot_lack request.task layer_map)
    (λ query fits. inquiry_cannot_lack query layer_map (wanted_top request.task) (bytes_from contents.layout (layout_source request.task))
    (layout_there request.task contents (λ name is. are request layer_map query name (asked_for words request asks) good fits is)))))
