-- what readers answer: what a stage comes to, or why there is nothing, and what files may come to
use Rattle.std.specs.Prelude.{ℕ, List, ◌≡◌, ◌≢◌, Option, Result, Err, Vec}
use Rattle.lists.specs.Words.{Global}
use Rattle.first_refusal.specs.Answers.{Answers}
use Rattle.first_refusal.specs.Outcomes.{Outcome, Reads, value, refused}
use Rattle.command_line.specs.declared.task.Task.{Task}
use Rattle.map_model.specs.MapNames.{LayerMap, layer_map_of}
use Rattle.map_model.specs.declared.map.Map.{Map}
use Rattle.run_inputs.specs.Contents.{MayContain, Source, bytes_from}
use Rattle.run_inputs.specs.Failures.{Change, HasRisen, IsCalm}
use Rattle.run_inputs.specs.Refusals.{layout_limit, layout_too_long}
use Rattle.run_inputs.specs.Verdict.{IsShortEnough, MapComesTo}
use Rattle.run_inputs.specs.declared.layout_fault.LayoutFault.{LayoutFault}
use Rattle.run_inputs.specs.declared.layout_fault.LayoutFault.TheVariants.{Memory as LayoutMemory}
use Rattle.run_inputs.specs.declared.refusal.Refusal.{Refusal}
use Rattle.run_inputs.specs.declared.unreported.Unreported.{Unreported}
use Rattle.run_inputs.specs.declared.unreported.Unreported.TheVariants.{Refused, FilesFailed, Memory}

-- ---- faults, as why there is nothing

-- a fault is told as this error: as its own, or as want of memory, if it is that
pub data IsToldAs {F E : Type 0} (low : F) (memory : E) (as_error : F → E) (fault : F) (error : E) : Type 0 where
  as_memory : fault ≡ low → error ≡ memory → IsToldAs low memory as_error fault error
  as_known : fault ≢ low → error ≡ as_error fault → IsToldAs low memory as_error fault error

-- ---- what stages come to

-- the outcome of a stage in the code's words: a thing that is so for the stage's value, or the stage's refusal as this error
pub data Gives {T V F E : Type 0} (as_error : F → E) (Stage : Outcome V F → Type 0) (IsFor : V → T → Type 0) : Outcome T E → Type 0 where
  gives_thing : {v : V} {thing : T} → Stage (value v) → IsFor v thing → Gives as_error Stage IsFor (value thing)
  gives_refusal : {refusal : F} → Stage (refused refusal) → Gives as_error Stage IsFor (refused (as_error refusal))

-- the answer is that, or that no memory is left
abbrev pub Finds : {T V : Type 0} → (Outcome V Refusal → Type 0) → (V → T → Type 0) → Result T Unreported → Type 0
Finds Stage IsFor = Answers Memory (Gives (λ refusal. Refused refusal) Stage IsFor)

-- the same of a layout, whose faults are answered as they are
abbrev pub Analyses : {T V : Type 0} → (Outcome V LayoutFault → Type 0) → (V → T → Type 0) → Result T LayoutFault → Type 0
Analyses Stage IsFor = Answers LayoutMemory (Gives (λ fault. fault) Stage IsFor)

-- where files are read for it: none failed and the answer is so; or they failed, and then this is so of them
pub data FindsInFiles {T V : Type 0} (failures : Change ℕ) (Unsure : Type 0) (Stage : Outcome V Refusal → Type 0) (IsFor : V → T → Type 0)
    : Result T Unreported → Type 0 where
  files_serve : {answer : Result T Unreported} → IsCalm failures → Finds Stage IsFor answer
      → FindsInFiles failures Unsure Stage IsFor answer
  files_fail : HasRisen failures → Unsure → FindsInFiles failures Unsure Stage IsFor (Err FilesFailed)

-- ---- maps and layouts

-- some bytes that the files may have make this of the source: its own bytes, or this refusal where they are more than the limit
pub record BytesMayCome (told : List ℕ → Option (List ℕ)) (source : Source) (limit : ℕ) (too_long : Refusal)
    (outcome : Outcome (List ℕ) Refusal) : Type 0 where
  pub bytes : List ℕ → List ℕ
  pub may_be : MayContain told bytes
  pub comes : Reads (IsShortEnough limit (bytes_from bytes source)) too_long outcome

-- the same of a layout from there
abbrev pub LayoutMayCome : (List ℕ → Option (List ℕ)) → Source → Outcome (List ℕ) Refusal → Type 0
LayoutMayCome told source = BytesMayCome told source layout_limit layout_too_long

-- those are the bytes
abbrev pub AreItems : List ℕ → Vec ℕ Global → Type 0
AreItems bytes read = bytes ≡ read.items

-- some bytes that the files may have where they are read as maps make the task's map come to this
pub record MapMayCome (told : List ℕ → Option (List ℕ)) (task : Task) (outcome : Outcome LayerMap Refusal) : Type 0 where
  pub bytes : List ℕ → List ℕ
  pub may_be : MayContain told bytes
  pub comes : MapComesTo task bytes outcome

-- the map stands for the layer map
abbrev pub IsMapOf : LayerMap → Map → Type 0
IsMapOf layer_map made = layer_map ≡ layer_map_of made
