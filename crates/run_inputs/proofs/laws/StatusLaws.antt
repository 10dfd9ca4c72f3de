-- the status of each refusal that a verdict has: 2, 3 or 4
use Rattle.std.proofs.Common.{ℕ, ◌≡◌, ◌≢◌, List, Option, refl}
use Rattle.first_refusal.specs.Outcomes.{refused, lacks, retold, stops, goes_on}
use Rattle.command_line.specs.declared.task.Task.{Task}
use Rattle.command_line.specs.declared.task.Task.TheVariants.{OneMetal, Mapped, Generated, Pairs, Probe, Regions}
use Rattle.layout_gen.specs.Generated.{generated_map}
use Rattle.map_model.specs.MapNames.{LayerMap}
use Rattle.run_inputs.specs.Contents.{Contents}
use Rattle.run_inputs.specs.Inquiries.{QueryComesTo}
use Rattle.run_inputs.specs.Refusals.{of_layout_fault}
use Rattle.run_inputs.specs.Verdict.{InquiryComesTo, IsVerdict, LayoutComesTo, MapComesTo, MapTextComesTo, WordsComeTo}
use Rattle.run_inputs.specs.declared.layout_fault.LayoutFault.{LayoutFault}
use Rattle.run_inputs.specs.declared.layout_fault.LayoutFault.TheVariants.{Syntax, Place, Cover, Net, Memory}
use Rattle.run_inputs.specs.declared.query.Query.{Query}
use Rattle.run_inputs.specs.declared.refusal.Refusal.{Refusal}

words_status : (words : List (List ℕ)) (refusal : Refusal) → WordsComeTo words (refused refusal) → refusal.status ≡ 2
words_status words refusal (lacks none) = refl

map_text_status : (bytes : List ℕ) (refusal : Refusal) → MapTextComesTo bytes (refused refusal) → refusal.status ≡ 3
map_text_status bytes refusal (stops (lacks long)) = refl
map_text_status bytes refusal (goes_on short (retold fault)) = refl

map_status : (task : Task) (bytes : List ℕ → List ℕ) (refusal : Refusal) → MapComesTo task bytes (refused refusal) → refusal.status ≡ 3
map_status (OneMetal layout layer datatype radius top) bytes refusal comes = cc comes
map_status (Mapped layout map top) bytes refusal comes = map_text_status (bytes map) refusal comes
map_status (Generated columns) bytes refusal comes = map_text_status generated_map refusal comes
map_status (Pairs layout map top size) bytes refusal comes = map_text_status (bytes map) refusal comes
map_status (Probe layout map top cell) bytes refusal comes = map_text_status (bytes map) refusal comes
map_status (Regions layout map top kind layer size) bytes refusal comes = map_text_status (bytes map) refusal comes

query_status : (task : Task) (layer_map : LayerMap) (refusal : Refusal) → QueryComesTo task layer_map (refused refusal) → refusal.status ≡ 3
query_status (OneMetal layout layer datatype radius top) layer_map refusal comes = cc comes
query_status (Mapped layout map top) layer_map refusal comes = cc comes
query_status (Generated columns) layer_map refusal comes = cc comes
query_status (Pairs layout map top size) layer_map refusal (lacks none) = refl
query_status (Probe layout map top cell) layer_map refusal comes = cc comes
query_status (Regions layout map top kind layer size) layer_map refusal (stops (lacks none)) = refl
query_status (Regions layout map top kind layer size) layer_map refusal (goes_on listed (lacks none)) = refl

fault_status : (fault : LayoutFault) → (of_layout_fault fault).status ≡ 4
fault_status (Syntax fault) = refl
fault_status (Place fault) = refl
fault_status (Cover fault) = refl
fault_status (Net fault) = refl
fault_status Memory = refl

layout_status : (layer_map : LayerMap) (wanted : Option (List ℕ)) (layout : List ℕ) (refusal : Refusal) → LayoutComesTo layer_map wanted layout (refused refusal)
    → refusal.status ≡ 4
layout_status layer_map wanted layout refusal (stops (lacks long)) = refl
layout_status layer_map wanted layout refusal (goes_on short (retold {fault = fault} comes)) = fault_status fault

inquiry_status : (query : Query) (layer_map : LayerMap) (wanted : Option (List ℕ)) (layout : List ℕ) (refusal : Refusal) → InquiryComesTo query layer_map wanted layout (refused refusal)
    → refusal.status ≡ 4
inquiry_status query layer_map wanted layout refusal (stops of_layout) = layout_status layer_map wanted layout refusal of_layout
inquiry_status query layer_map wanted layout refusal (goes_on of_layout is) = cc is

-- so none of them is that of a failure
pub refused_status : (words : List (List ℕ)) (contents : Contents) (refusal : Refusal) → IsVerdict words contents (refused refusal) → refusal.status ≢ 5
refused_status words contents refusal (stops of_words) e = let is = words_status words refusal of_words in cc (is, e)
refused_status words contents refusal (goes_on {v = request} asked (stops of_map)) e =
    let is = map_status request.task contents.map refusal of_map in cc (is, e)
refused_status words contents refusal (goes_on {v = request} asked (goes_on {v = layer_map} map (stops of_task))) e =
    let is = query_status request.task layer_map refusal of_task in cc (is, e)
refused_status words contents refusal (goes_on asked (goes_on map (goes_on fits of_layout))) e = let is = inquiry_status _ _ _ _ refusal of_layout in cc (is, e)
