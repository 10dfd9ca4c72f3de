-- what the files come to that a request names, and the maps and texts that need none
use Rattle.std.proofs.Common.{ℕ, ◌≡◌, ◌<◌, ◌≤◌, List, [], ◌∷◌, length, zero, suc, refl, sym, subst, arith, lit≤, if◌then◌else◌, Bool, true, false}
use Rattle.std.proofs.Common.{Option, Some, None, IfSome, IsErrAnd, Result, Ok, Err, Vec, unwrap_or}
use Rattle.lists.proofs.Words.{Global, bytes_eq, All-cons, All-nil, bytes_eq-Decides}
use Rattle.first_refusal.specs.Answers.{Answers, gives, refuses, no_memory}
use Rattle.first_refusal.specs.Outcomes.{Outcome, value, refused, Reads, reads, lacks, kept, retold, stops, goes_on}
use Rattle.lists.specs.ByteLists.{AreBytes, IsByte}
use Rattle.lists.proofs.Containing.{Contains-head}
use Rattle.geo_core.specs.declared.plane.Cell.{Cell}
use Rattle.edge_io.specs.ReadAnswers.{ReadsWhole, is_whole, is_too_long, has_no_memory, has_failed}
use Rattle.edge_io.specs.declared.whole.ReadError.{ReadError}
use Rattle.edge_io.specs.declared.whole.ReadError.TheVariants as unread
use Rattle.command_line.specs.declared.task.Task.{Task}
use Rattle.command_line.specs.declared.task.Task.TheVariants.{OneMetal, Mapped, Generated, Pairs, Probe, Regions}
use Rattle.layer_map.specs.Documents as document
use Rattle.layer_map.specs.declared.fault.MapFault.{MapFault}
use Rattle.layer_map.specs.declared.fault.MapFault.TheVariants as map_fault
use Rattle.layout_gen.specs.Generated.{generated_map}
use Rattle.map_model.specs.MapNames.{LayerMap, layer_map_of, one_metal_map}
use Rattle.map_model.specs.declared.map.Map.{Map}
use Rattle.questions.specs.declared.kind.Kind.{Kind}
use Rattle.run_inputs.specs.Contents.{MayContain, MayHave, file, map_names}
use Rattle.run_inputs.specs.StageAnswers.{Finds, gives_thing, gives_refusal, FindsInFiles, files_serve, files_fail, IsToldAs}
use Rattle.run_inputs.specs.StageAnswers.{AreItems, BytesMayCome, IsMapOf, MapMayCome}
use Rattle.run_inputs.specs.Refusals.{map_limit, map_too_long, of_map_fault}
use Rattle.run_inputs.specs.Failures.{IsUnsureOf, change}
use Rattle.run_inputs.specs.Verdict.{IsShortEnough, MapComesTo, MapTextComesTo, ShortMapComesTo}
use Rattle.run_inputs.specs.declared.refusal.Refusal.{Refusal}
use Rattle.run_inputs.specs.declared.unreported.Unreported.{Unreported}
use Rattle.run_inputs.specs.declared.unreported.Unreported.TheVariants.{Refused, FilesFailed, Memory}
use Rattle.run_inputs.proofs.laws.ReadingLaws.{fault_told, may_have_some, not_read, some_contents, some_may_be, thing_told}

-- ---- what files may have

-- bytes that were read
may_have_read : (told : Option (List ℕ)) (bytes : List ℕ) → IfSome told (λ all. bytes ≡ all) → AreBytes bytes → MayHave told bytes
may_have_read (Some all) bytes same are = same
may_have_read None bytes same are = are

-- bytes longer than a number
longer : (n : ℕ) → (bytes : List ℕ) × AreBytes bytes × (n < length bytes)
longer zero = (0 ∷ [], All-cons IsByte 0 [] (omega arith) (All-nil IsByte), omega arith)
longer (suc n) = let (bytes, are, h) = longer n in (0 ∷ bytes, All-cons IsByte 0 bytes (omega arith) are, omega arith)

-- of a file with more bytes than a limit, some such bytes
long_bytes : (limit : ℕ) (told : Option (List ℕ)) → IfSome told (λ all. limit < length all) → (bytes : List ℕ) × MayHave told bytes × (limit < length bytes)
long_bytes limit None h = longer limit
long_bytes limit (Some all) h = (all, refl, h)

module _ (told : List ℕ → Option (List ℕ)) (name text : List ℕ) where
  -- contents of files of which the one of this name has this text
  with_text : List ℕ → List ℕ
  with_text other = if bytes_eq other name then text else unwrap_or (told other) []

  text_is_there : with_text name ≡ text
  unfolding with_text
  text_is_there = let same = (bytes_eq-Decides name name).1 refl in rw same refl

  with_text_may_be : MayHave (told name) text → MayContain told with_text
  unfolding with_text
  with_text_may_be may other = go (bytes_eq other name) refl where
    go : (b : Bool) → bytes_eq other name ≡ b → MayHave (told other) (if b then text else unwrap_or (told other) [])
    go true e = let same : other ≡ name = (bytes_eq-Decides other name).0 e in subst (λ n. MayHave (told n) text) (sym same) may
    go false e = may_have_some (told other)

-- ---- files that are read whole

-- the answer of a reader of files, where this is the refusal of a file that is too long
abbrev pub as_found : Refusal → Result (Vec ℕ Global) ReadError → Result (Vec ℕ Global) Unreported
as_found too_long (Ok bytes) = Ok bytes
as_found too_long (Err unread.Fault) = Err FilesFailed
as_found too_long (Err unread.TooLong) = Err (Refused too_long)
as_found too_long (Err unread.Memory) = Err Memory

module _ (told : List ℕ → Option (List ℕ)) (name : List ℕ) (limit : ℕ) (too_long : Refusal) where
  -- what bytes come to that the file may have
  bytes_come : (bytes : List ℕ) → MayHave (told name) bytes → (outcome : Outcome (List ℕ) Refusal) → Reads (IsShortEnough limit bytes) too_long outcome
      → BytesMayCome told (file name) limit too_long outcome
  bytes_come bytes may outcome comes = record {
    bytes = with_text told name bytes;
    may_be = with_text_may_be told name bytes may;
    comes = rw (text_is_there told name bytes) comes;
  }

  -- the file was read, or it failed, or some bytes that it may have are too many
  pub file_found : (sure : List ℕ → Type 0) (before after : ℕ) (started : Type 0) (rest : Option (List ℕ)) (answer : Result (Vec ℕ Global) ReadError)
      → ReadsWhole (told name) limit before after started rest answer → (answer ≡ Err unread.Fault → sure name → ⊥)
      → FindsInFiles (change before after) (IsUnsureOf sure (name ∷ [])) (BytesMayCome told (file name) limit too_long) AreItems (as_found too_long answer)
  file_found sure before after started rest (Ok bytes) (is_whole whole are short calm opened left) unsure =
      let may = may_have_read (told name) bytes.items whole are in
      files_serve calm (gives (gives_thing (bytes_come bytes.items may (value bytes.items) (reads (record { is_text = refl; short = omega (arith, short) }))) refl))
  file_found sure before after started rest (Err unread.Fault) (has_failed failed) unsure = files_fail failed.rose (name, Contains-head name [], unsure refl)
  file_found sure before after started rest (Err unread.TooLong) (is_too_long more calm opened left) unsure =
      let (bytes, may, long) = long_bytes limit (told name) more in
      let none : (text : List ℕ) → IsShortEnough limit bytes text → ⊥ = λ text is. let short = is.short in absurd (omega (arith, long, short)) in
      files_serve calm (refuses (gives_refusal (bytes_come bytes may (refused too_long) (lacks none))))
  file_found sure before after started rest (Err unread.Memory) (has_no_memory calm opened left) unsure = files_serve calm no_memory

-- ---- maps

generated_is_short : length generated_map ≤ map_limit
unfolding generated_map
generated_is_short = lit≤ tt

-- the task's map is the file of this name
pub record HasMapIn (task : Task) (name : List ℕ) : Type 0 where
  pub names : map_names task ≡ name ∷ []
  pub comes : (bytes : List ℕ → List ℕ) (outcome : Outcome LayerMap Refusal) → MapTextComesTo (bytes name) outcome → MapComesTo task bytes outcome

pub mapped_in : (layout name : List ℕ) (top : Option (List ℕ)) → HasMapIn (Mapped layout name top) name
mapped_in layout name top = record { names = refl; comes = λ bytes outcome comes. comes }

pub pairs_in : (layout name : List ℕ) (top : Option (List ℕ)) (size : ℕ) → HasMapIn (Pairs layout name top size) name
pairs_in layout name top size = record { names = refl; comes = λ bytes outcome comes. comes }

pub probe_in : (layout name : List ℕ) (top : Option (List ℕ)) (cell : Cell) → HasMapIn (Probe layout name top cell) name
probe_in layout name top cell = record { names = refl; comes = λ bytes outcome comes. comes }

pub regions_in : (layout name : List ℕ) (top : Option (List ℕ)) (kind : Kind) (layer : List ℕ) (size : ℕ) → HasMapIn (Regions layout name top kind layer size) name
regions_in layout name top kind layer size = record { names = refl; comes = λ bytes outcome comes. comes }

module _ (told : List ℕ → Option (List ℕ)) where
  module _ (task : Task) (name : List ℕ) (in_file : HasMapIn task name) where
    -- the map of a file that has more bytes than it may, and the one that its text says
    pub refused_text : (refusal : Refusal) → BytesMayCome told (file name) map_limit map_too_long (refused refusal) → MapMayCome told task (refused refusal)
    refused_text refusal read = record { bytes = read.bytes; may_be = read.may_be; comes = in_file.comes read.bytes (refused refusal) (stops read.comes) }

    pub map_of_file : (text : List ℕ) → BytesMayCome told (file name) map_limit map_too_long (value text) → (outcome : Outcome LayerMap Refusal) → ShortMapComesTo text outcome
        → MapMayCome told task outcome
    map_of_file text read outcome comes = record {
      bytes = read.bytes;
      may_be = read.may_be;
      comes = in_file.comes read.bytes outcome (goes_on {v = text} read.comes comes);
    }

  -- the map that goes with a generated layout
  pub map_of_generated : (columns : ℕ) (outcome : Outcome LayerMap Refusal) → ShortMapComesTo generated_map outcome → MapMayCome told (Generated columns) outcome
  map_of_generated columns outcome comes = record {
    bytes = some_contents told;
    may_be = some_may_be told;
    comes = goes_on {v = generated_map} (reads (record { is_text = refl; short = generated_is_short })) comes;
  }

  -- the map of one metal
  pub one_metal_found : (layout : List ℕ) (layer datatype radius : ℕ) (top : Option (List ℕ)) (made : Map) → layer_map_of made ≡ one_metal_map layer datatype radius
      → Finds (MapMayCome told (OneMetal layout layer datatype radius top)) IsMapOf (Ok made)
  one_metal_found layout layer datatype radius top made same = gives (gives_thing {v = one_metal_map layer datatype radius} may (sym same)) where
    may : MapMayCome told (OneMetal layout layer datatype radius top) (value (one_metal_map layer datatype radius))
    may = record { bytes = some_contents told; may_be = some_may_be told; comes = refl }

  -- what a reader answers on the text of a map
  module _ (task : Task) (text : List ℕ) (comes : (outcome : Outcome LayerMap Refusal) → ShortMapComesTo text outcome → MapMayCome told task outcome) where
    abbrev Reader : Result Map MapFault → Type 0
    Reader = Answers map_fault.Memory (λ outcome. document.MapComesTo text (document.value_as layer_map_of outcome))

    pub map_read : (made : Map) → Reader (Ok made) → Finds (MapMayCome told task) IsMapOf (Ok made)
    map_read made answer = gives (gives_thing (comes (value (layer_map_of made)) (kept (thing_told answer))) refl)

    pub map_unread : (why : MapFault) (result : Result Map Unreported) → IsErrAnd result (IsToldAs map_fault.Memory Memory (λ known. Refused (of_map_fault known)) why) → Reader (Err why)
        → Finds (MapMayCome told task) IsMapOf result
    map_unread why result gave answer =
        not_read Memory (λ refusal. Refused refusal) (MapMayCome told task) IsMapOf map_fault.Memory of_map_fault why result gave
        (λ known. comes (refused (of_map_fault why)) (retold (fault_told answer known)))
