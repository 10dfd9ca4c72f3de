-- of which stage each refusal of a verdict is
use Rattle.std.proofs.Common.{ℕ, ◌≡◌, ◌≢◌, ◌≤◌, arith, List, Option, refl, sym, subst, lit≤}
use Rattle.first_refusal.specs.Checks.{one_fails}
use Rattle.first_refusal.specs.Outcomes.{refused, lacks, retold, stops, goes_on}
use Rattle.command_line.specs.Requests.{Ask}
use Rattle.command_line.specs.declared.request.Request.{Request}
use Rattle.command_line.specs.declared.task.Task.{Task}
use Rattle.command_line.specs.declared.task.Task.TheVariants.{OneMetal, Mapped, Generated, Pairs, Probe, Regions}
use Rattle.gds_records.specs.RecordSpelling.{Entry}
use Rattle.gds_records.specs.Split.{End}
use Rattle.gds_records.specs.declared.fault.RecordFault.{RecordFault}
use Rattle.gds_records.specs.declared.fault.RecordFault.TheVariants.{Truncated}
use Rattle.library_grammar.specs.ElementChecks.{ElementCheck, has, element_fault}
use Rattle.library_grammar.specs.FirstFault.{Shows, may_not_stand, repeats, is_faulty, IsFirstFault, at_record, at_end, BytesComeTo, have_fault}
use Rattle.library_grammar.specs.SyntaxFaults as syntax_faults
use Rattle.library_grammar.specs.declared.fault.SyntaxFault.{SyntaxFault}
use Rattle.library_grammar.specs.declared.fault.SyntaxFault.TheVariants.{Record}
use Rattle.library_model.specs.declared.library.Structure.{Structure}
use Rattle.flatten.specs.PlaceFaults as place_faults
use Rattle.flatten.specs.Placements.{LibraryCheck, has_its_target, library_fault, TopCheck, is_shallow, top_fault, Placing}
use Rattle.flatten.specs.declared.fault.PlaceFault.{PlaceFault}
use Rattle.layer_map.specs.CutChecks.{CutCheck, as_layer, of_lower, of_upper, cut_fault}
use Rattle.layer_map.specs.Documents as document
use Rattle.layer_map.specs.ItemChecks.{TableCheck, is_table, table_fault, ReferenceCheck, is_text, reference_fault}
use Rattle.layer_map.specs.LayerChecks.{LayerCheck, as_table as layer_as_table, layer_fault}
use Rattle.layer_map.specs.MapChecks.{MapCheck, of_metal, of_cut, of_terminal as of_terminal_item, fault_of}
use Rattle.layer_map.specs.MapFaults as map_faults
use Rattle.layer_map.specs.TerminalChecks.{TerminalCheck, as_table as terminal_as_table, metal_named, terminal_fault as terminal_item_fault}
use Rattle.layer_map.specs.declared.fault.MapFault.{MapFault}
use Rattle.layout_gen.specs.Generated.{generated_map}
use Rattle.map_model.specs.MapNames.{LayerMap}
use Rattle.library_model.specs.declared.library.Library.{Library}
use Rattle.rect_cover.specs.CoverFaults as cover_faults
use Rattle.rect_cover.specs.ShapeChecks.{ShapeCheck, is_not_round, shape_fault}
use Rattle.critarea_core.specs.Contents.{Contents}
use Rattle.critarea_core.specs.Inquiries.{QueryComesTo}
use Rattle.run_inputs.specs.declared.query.Query.{Query}
use Rattle.critarea_core.specs.Layout.{LibraryComesTo, ShapesComeTo, ShortLayoutComesTo}
use Rattle.critarea_core.specs.Refusals.{of_layout_fault}
use Rattle.critarea_core.specs.Verdict.{InquiryComesTo, IsVerdict, LayoutComesTo, MapComesTo, MapTextComesTo, WordsComeTo}
use Rattle.run_inputs.specs.declared.layout_fault.LayoutFault.{LayoutFault}
use Rattle.run_inputs.specs.declared.refusal.Refusal.{Refusal}
use Rattle.run_laws.specs.RefusalStages.{IsOfStage, of_words, of_map, of_size, of_layer, of_layout, of_terminal}
use Rattle.run_laws.specs.TaskRows.{GivesRegion, NamesSize}
use Rattle.run_laws.proofs.NameLaws.{TaskComesTo, task_outcome}

-- ---- the numbers of faults of maps

abbrev IsMapNumber : ℕ → Type 0
IsMapNumber number = (39 ≤ number) × (number ≤ 47)

table_number : (path : ℕ) (check : TableCheck) → IsMapNumber (map_faults.number_of (table_fault path check))
table_number path is_table = (lit≤ tt, lit≤ tt)
table_number path check = (lit≤ tt, lit≤ tt)

reference_number : (path : ℕ) (check : ReferenceCheck) → IsMapNumber (map_faults.number_of (reference_fault path check))
reference_number path is_text = (lit≤ tt, lit≤ tt)
reference_number path check = (lit≤ tt, lit≤ tt)

layer_number : (path : ℕ) (check : LayerCheck) → IsMapNumber (map_faults.number_of (layer_fault path check))
layer_number path (layer_as_table check) = table_number path check
layer_number path check = (lit≤ tt, lit≤ tt)

cut_number : (path : ℕ) (check : CutCheck) → IsMapNumber (map_faults.number_of (cut_fault path check))
cut_number path (as_layer check) = layer_number path check
cut_number path (of_lower check) = reference_number _ check
cut_number path (of_upper check) = reference_number _ check
cut_number path check = (lit≤ tt, lit≤ tt)

terminal_number : (path : ℕ) (check : TerminalCheck) → IsMapNumber (map_faults.number_of (terminal_item_fault path check))
terminal_number path (terminal_as_table check) = table_number path check
terminal_number path (metal_named check) = reference_number _ check
terminal_number path check = (lit≤ tt, lit≤ tt)

check_number : (check : MapCheck) → IsMapNumber (map_faults.number_of (fault_of check))
check_number (of_metal number check) = layer_number _ check
check_number (of_cut number check) = cut_number _ check
check_number (of_terminal_item number check) = terminal_number _ check
check_number check = (lit≤ tt, lit≤ tt)

map_number : (text : List ℕ) (fault : MapFault) → document.MapComesTo text (refused fault) → IsMapNumber (map_faults.number_of fault)
map_number text fault (stops (lacks none)) = (lit≤ tt, lit≤ tt)
map_number text fault (goes_on members (one_fails first)) =
    subst (λ (f : MapFault). IsMapNumber (map_faults.number_of f)) (sym first.is_its_refusal) (check_number first.check)

-- ---- the numbers of faults of layouts

abbrev IsLayoutNumber : ℕ → Type 0
IsLayoutNumber number = (9 ≤ number) × (number ≤ 36)

abbrev HasNumber : SyntaxFault → Type 0
HasNumber fault = IsLayoutNumber (syntax_faults.number_of fault)

record_number : (why : RecordFault) → HasNumber (Record why)
record_number (Truncated at) = (lit≤ tt, lit≤ tt)
record_number why = (lit≤ tt, lit≤ tt)

element_number : (at : ℕ) (check : ElementCheck) → HasNumber (element_fault at check)
element_number at (has kind) = (lit≤ tt, lit≤ tt)
element_number at check = (lit≤ tt, lit≤ tt)

shown_number : (before : List Entry) (e : Entry) (fault : SyntaxFault) → Shows before e fault → HasNumber fault
shown_number before e fault (may_not_stand _) = (lit≤ tt, lit≤ tt)
shown_number before e fault (repeats _ _ _ _) = (lit≤ tt, lit≤ tt)
shown_number before e fault (is_faulty {at = at} _ _ first) = subst HasNumber (sym first.is_its_refusal) (element_number at first.check)

first_number : (entries : List Entry) (end : End) (fault : SyntaxFault) → IsFirstFault entries end fault → HasNumber fault
first_number entries end fault (at_record before after e _ _ shows) = shown_number before e fault shows
first_number entries end fault (at_end {why = why} _) = record_number why

syntax_number : (bytes : List ℕ) (fault : SyntaxFault) → BytesComeTo bytes (refused fault) → HasNumber fault
syntax_number bytes fault (have_fault {entries = entries} {end = end} splits first) = first_number entries end fault first

abbrev HasPlaceNumber : PlaceFault → Type 0
HasPlaceNumber fault = IsLayoutNumber (place_faults.number_of fault)

library_number : (structures : List Structure) (check : LibraryCheck) → HasPlaceNumber (library_fault structures check)
library_number structures (has_its_target reference) = (lit≤ tt, lit≤ tt)
library_number structures check = (lit≤ tt, lit≤ tt)

top_number : (structures : List Structure) (top : ℕ) (check : TopCheck) → HasPlaceNumber (top_fault structures top check)
top_number structures top is_shallow = (lit≤ tt, lit≤ tt)
top_number structures top check = (lit≤ tt, lit≤ tt)

place_number : (structures : List Structure) (layer_map : LayerMap) (wanted : Option (List ℕ)) (fault : PlaceFault) → Placing structures layer_map wanted (refused fault) → HasPlaceNumber fault
place_number structures layer_map wanted fault (stops (one_fails first)) = subst HasPlaceNumber (sym first.is_its_refusal) (library_number structures first.check)
place_number structures layer_map wanted fault (goes_on {v = top} chosen (one_fails first)) =
    subst HasPlaceNumber (sym first.is_its_refusal) (top_number structures top first.check)

shape_number : (at : ℕ) (check : ShapeCheck) → IsLayoutNumber (cover_faults.number_of (shape_fault at check))
shape_number at (is_not_round style) = (lit≤ tt, lit≤ tt)
shape_number at check = (lit≤ tt, lit≤ tt)

-- ---- the stages of refusals

-- a refusal of the layout, by its number
data IsOfLayout (refusal : Refusal) : Type 0 where
  in_bytes : refusal.status ≡ 4 → IsLayoutNumber refusal.number → IsOfLayout refusal
  off_metal : refusal.status ≡ 4 → refusal.number ≡ 50 → IsOfLayout refusal

layout_stage_of : (refusal : Refusal) → IsOfLayout refusal → IsOfStage refusal
layout_stage_of refusal (in_bytes status number) = of_layout status number.0 number.1
layout_stage_of refusal (off_metal status number) = of_terminal status number

-- a refusal of the map, by its number
record IsOfMap (refusal : Refusal) : Type 0 where
  pub status : refusal.status ≡ 3
  pub number : IsMapNumber refusal.number

map_stage_of : (refusal : Refusal) → IsOfMap refusal → IsOfStage refusal
map_stage_of refusal is = of_map is.status is.number.0 is.number.1

abbrev IsLayoutFault : LayoutFault → Type 0
IsLayoutFault fault = IsOfLayout (of_layout_fault fault)

library_stage : (layer_map : LayerMap) (wanted : Option (List ℕ)) (library : Library) (fault : LayoutFault) → LibraryComesTo layer_map wanted library (refused fault) → IsLayoutFault fault
library_stage layer_map wanted library fault (stops (retold {fault = placing} comes)) =
    in_bytes refl (place_number library.structures layer_map wanted placing comes)
library_stage layer_map wanted library fault (goes_on placed (one_fails first)) =
    let number = shape_number first.check.0.shape.at first.check.1 in subst IsLayoutFault (sym first.is_its_refusal) (in_bytes refl number)

shapes_stage : (layer_map : LayerMap) (wanted : Option (List ℕ)) (bytes : List ℕ) (fault : LayoutFault) → ShapesComeTo layer_map wanted bytes (refused fault) → IsLayoutFault fault
shapes_stage layer_map wanted bytes fault (stops (retold {fault = syntax} comes)) = in_bytes refl (syntax_number bytes syntax comes)
shapes_stage layer_map wanted bytes fault (goes_on {v = library} read comes) = library_stage layer_map wanted library fault comes

short_stage : (layer_map : LayerMap) (wanted : Option (List ℕ)) (bytes : List ℕ) (fault : LayoutFault) → ShortLayoutComesTo layer_map wanted bytes (refused fault) → IsLayoutFault fault
short_stage layer_map wanted bytes fault (stops comes) = shapes_stage layer_map wanted bytes fault comes
short_stage layer_map wanted bytes fault (goes_on shapes (one_fails first)) = subst IsLayoutFault (sym first.is_its_refusal) (off_metal refl refl)

layout_stage : (layer_map : LayerMap) (wanted : Option (List ℕ)) (layout : List ℕ) (refusal : Refusal) → LayoutComesTo layer_map wanted layout (refused refusal) → IsOfLayout refusal
layout_stage layer_map wanted layout refusal (stops (lacks long)) = in_bytes refl (lit≤ tt, lit≤ tt)
layout_stage layer_map wanted layout refusal (goes_on {v = text} short (retold {fault = fault} comes)) = short_stage layer_map wanted text fault comes

map_text_stage : (bytes : List ℕ) (refusal : Refusal) → MapTextComesTo bytes (refused refusal) → IsOfMap refusal
map_text_stage bytes refusal (stops (lacks long)) = record { status = refl; number = (lit≤ tt, lit≤ tt) }
map_text_stage bytes refusal (goes_on {v = text} short (retold {fault = fault} comes)) = record { status = refl; number = map_number text fault comes }

map_stage : (task : Task) (bytes : List ℕ → List ℕ) (refusal : Refusal) → MapComesTo task bytes (refused refusal) → IsOfMap refusal
map_stage (OneMetal layout layer datatype radius top) bytes refusal comes = cc comes
map_stage (Mapped layout map top) bytes refusal comes = map_text_stage (bytes map) refusal comes
map_stage (Generated columns) bytes refusal comes = map_text_stage generated_map refusal comes
map_stage (Pairs layout map top size) bytes refusal comes = map_text_stage (bytes map) refusal comes
map_stage (Probe layout map top cell) bytes refusal comes = map_text_stage (bytes map) refusal comes
map_stage (Regions layout map top kind layer size) bytes refusal comes = map_text_stage (bytes map) refusal comes

query_stage : (task : Task) (layer_map : LayerMap) (refusal : Refusal) → QueryComesTo task layer_map (refused refusal) → IsOfStage refusal
query_stage (OneMetal layout layer datatype radius top) layer_map refusal comes = cc comes
query_stage (Mapped layout map top) layer_map refusal comes = cc comes
query_stage (Generated columns) layer_map refusal comes = cc comes
query_stage (Pairs layout map top size) layer_map refusal (lacks none) = of_size refl refl
query_stage (Probe layout map top cell) layer_map refusal comes = cc comes
query_stage (Regions layout map top kind layer size) layer_map refusal (stops (lacks none)) = of_size refl refl
query_stage (Regions layout map top kind layer size) layer_map refusal (goes_on numbered (lacks none)) = of_layer refl refl

inquiry_stage : (query : Query) (layer_map : LayerMap) (wanted : Option (List ℕ)) (layout : List ℕ) (refusal : Refusal) → InquiryComesTo query layer_map wanted layout (refused refusal)
    → IsOfLayout refusal
inquiry_stage query layer_map wanted layout refusal (stops comes) = layout_stage layer_map wanted layout refusal comes
inquiry_stage query layer_map wanted layout refusal (goes_on comes is) = cc is

words_stage : (words : List (List ℕ)) (refusal : Refusal) → WordsComeTo words (refused refusal) → IsOfStage refusal
words_stage words refusal (lacks none) = of_words refl refl

pub refusals_tell_stages : (words : List (List ℕ)) (contents : Contents) (refusal : Refusal) → IsVerdict words contents (refused refusal) → IsOfStage refusal
refusals_tell_stages words contents refusal (stops comes) = words_stage words refusal comes
refusals_tell_stages words contents refusal (goes_on {v = request} words_ask (stops comes)) =
    map_stage_of refusal (map_stage request.task contents.map refusal comes)
refusals_tell_stages words contents refusal (goes_on {v = request} words_ask (goes_on {v = layer_map} map (stops comes))) =
    query_stage request.task layer_map refusal comes
refusals_tell_stages words contents refusal (goes_on words_ask (goes_on map (goes_on fits comes))) =
    layout_stage_of refusal (inquiry_stage _ _ _ _ refusal comes)

-- ---- the numbers of what a map lacks, which no other stage has

-- the number is that of a size or of a layer
abbrev pub IsOfLack : ℕ → Type 0
IsOfLack number = (48 ≤ number) × (number ≤ 49)

map_lacks_none : (refusal : Refusal) → IsOfMap refusal → IsOfLack refusal.number → ⊥
map_lacks_none refusal is lack = let most = is.number.1 in let least = lack.0 in omega (arith, most, least)

layout_lacks_none : (refusal : Refusal) → IsOfLayout refusal → IsOfLack refusal.number → ⊥
layout_lacks_none refusal (in_bytes status number) lack = let most = number.1 in let least = lack.0 in omega (arith, most, least)
layout_lacks_none refusal (off_metal status number) lack = let most = lack.1 in omega (arith, number, most)

pub no_map_refuses_so : (bytes : List ℕ) (refusal : Refusal) → MapTextComesTo bytes (refused refusal) → IsOfLack refusal.number → ⊥
no_map_refuses_so bytes refusal comes = map_lacks_none refusal (map_text_stage bytes refusal comes)

pub no_layout_refuses_so : (query : Query) (layer_map : LayerMap) (wanted : Option (List ℕ)) (layout : List ℕ) (refusal : Refusal)
    → InquiryComesTo query layer_map wanted layout (refused refusal) → IsOfLack refusal.number → ⊥
no_layout_refuses_so query layer_map wanted layout refusal comes =
    layout_lacks_none refusal (inquiry_stage query layer_map wanted layout refusal comes)

-- so a refusal with one of them is of what the task asks of a map
of_asking : (task : Task) (contents : Contents) (refusal : Refusal) → TaskComesTo contents task (refused refusal) → IsOfLack refusal.number
    → (layer_map : LayerMap) × QueryComesTo task layer_map (refused refusal)
of_asking task contents refusal (stops comes) lack = absurd (map_lacks_none refusal (map_stage task contents.map refusal comes) lack)
of_asking task contents refusal (goes_on {v = layer_map} map (stops comes)) lack = (layer_map, comes)
of_asking task contents refusal (goes_on map (goes_on fits comes)) lack = absurd (no_layout_refuses_so _ _ _ _ refusal comes lack)

-- a task that names no size lacks nothing
nothing_lacks : (task : Task) (layer_map : LayerMap) (refusal : Refusal) → (NamesSize task → ⊥) → QueryComesTo task layer_map (refused refusal) → ⊥
nothing_lacks (OneMetal layout layer datatype radius top) layer_map refusal none comes = cc comes
nothing_lacks (Mapped layout map top) layer_map refusal none comes = cc comes
nothing_lacks (Generated columns) layer_map refusal none comes = cc comes
nothing_lacks (Pairs layout map top size) layer_map refusal none comes = none tt
nothing_lacks (Probe layout map top cell) layer_map refusal none comes = cc comes
nothing_lacks (Regions layout map top kind layer size) layer_map refusal none comes = none tt

-- and one that gives no region lacks no layer
no_layer_is_lacking : (task : Task) (layer_map : LayerMap) (refusal : Refusal) → (GivesRegion task → ⊥)
    → QueryComesTo task layer_map (refused refusal) → refusal.number ≢ 49
no_layer_is_lacking (OneMetal layout layer datatype radius top) layer_map refusal none comes e = cc comes
no_layer_is_lacking (Mapped layout map top) layer_map refusal none comes e = cc comes
no_layer_is_lacking (Generated columns) layer_map refusal none comes e = cc comes
no_layer_is_lacking (Pairs layout map top size) layer_map refusal none (lacks never) e = let is : 48 ≡ 49 = e in omega (arith, is)
no_layer_is_lacking (Probe layout map top cell) layer_map refusal none comes e = cc comes
no_layer_is_lacking (Regions layout map top kind layer size) layer_map refusal none comes e = none tt

module _ (words : List (List ℕ)) (contents : Contents) (request : Request) (refusal : Refusal) (asks : Ask words request)
    (verdict : IsVerdict words contents (refused refusal)) where
  lacking : IsOfLack refusal.number → (layer_map : LayerMap) × QueryComesTo request.task layer_map (refused refusal)
  lacking = of_asking request.task contents refusal ((task_outcome words request request.task asks refl contents (refused refusal)).0 verdict)

  pub no_size_lacks : (NamesSize request.task → ⊥) → refusal.number ≢ 48
  no_size_lacks none e = let at = lacking (subst IsOfLack (sym e) (lit≤ tt, lit≤ tt)) in nothing_lacks request.task at.0 refusal none at.1

  pub no_layer_lacks : (GivesRegion request.task → ⊥) → refusal.number ≢ 49
  no_layer_lacks none e = let at = lacking (subst IsOfLack (sym e) (lit≤ tt, lit≤ tt)) in no_layer_is_lacking request.task at.0 refusal none at.1 e
