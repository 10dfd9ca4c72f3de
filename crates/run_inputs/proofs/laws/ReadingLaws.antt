-- what readers answer, from what they find
use Rattle.std.proofs.Common.{ℕ, ◌≡◌, ◌≢◌, ◌≤◌, List, [], length, refl, sym, subst}
use Rattle.std.proofs.Common.{Option, Some, None, IsErrAnd, Result, Ok, Err, Vec, unwrap_or}
use Rattle.lists.proofs.Words.{Global, All-nil}
use Rattle.first_refusal.specs.Answers.{Answers, gives, refuses, no_memory}
use Rattle.first_refusal.specs.Outcomes.{Outcome, value, refused, Reads, Then, reads, stops, goes_on}
use Rattle.lists.specs.ByteLists.{IsByte}
use Rattle.run_inputs.specs.Contents.{MayContain, MayHave, Source, bytes_from}
use Rattle.run_inputs.specs.StageAnswers.{Analyses, Gives, gives_thing, gives_refusal, FindsInFiles, files_serve, files_fail, IsToldAs, as_memory, as_known}
use Rattle.run_inputs.specs.StageAnswers.{AreItems, BytesMayCome}
use Rattle.run_inputs.specs.Failures.{Change, IsCalm}
use Rattle.run_inputs.specs.Verdict.{IsShortEnough}
use Rattle.run_inputs.specs.declared.layout_fault.LayoutFault.{LayoutFault}
use Rattle.run_inputs.specs.declared.layout_fault.LayoutFault.TheVariants.{Memory as LayoutMemory}
use Rattle.run_inputs.specs.declared.refusal.Refusal.{Refusal}
use Rattle.run_inputs.specs.declared.unreported.Unreported.{Unreported}

-- ---- answers

module _ {T V F E : Type 0} (none : E) (as_error : F → E) (Stage : Outcome V F → Type 0) (IsFor : V → T → Type 0) where
  -- the answer is what the stage comes to, or the error that says that no memory is left
  abbrev IsAnswer : Result T E → Type 0
  IsAnswer = Answers none (Gives as_error Stage IsFor)

  -- the fault of another reader, where it is the refusal of the stage
  pub not_read : {L : Type 0} (low : L) (said : L → F) (fault : L) (result : Result T E)
      → IsErrAnd result (IsToldAs low none (λ known. as_error (said known)) fault) → (fault ≢ low → Stage (refused (said fault))) → IsAnswer result
  not_read low said fault (Ok thing) gave known = absurd gave
  not_read low said fault (Err told) (as_memory is_low is) known = rw is no_memory
  not_read low said fault (Err told) (as_known other is) known = rw is (refuses (gives_refusal (known other)))

  -- what was found is for some value of the stage
  pub found_for : (thing : T) → IsAnswer (Ok thing) → (v : V) × Stage (value v) × IsFor v thing
  found_for thing (gives (gives_thing {v = v} comes is)) = (v, comes, is)

  -- the same of another stage that comes to all that this one does
  pub restaged : (Other : Outcome V F → Type 0) → ((outcome : Outcome V F) → Stage outcome → Other outcome)
      → (result : Result T E) → IsAnswer result → Answers none (Gives as_error Other IsFor) result
  restaged Other each result (gives (gives_thing {v = v} comes is)) = gives (gives_thing (each (value v) comes) is)
  restaged Other each result (refuses (gives_refusal {refusal = r} comes)) = refuses (gives_refusal (each (refused r) comes))
  restaged Other each result no_memory = no_memory

-- a stage in front of two others
pub behind : {U V W F : Type 0} (First : Outcome U F → Type 0) (Second : U → Outcome V F → Type 0) (Third : V → Outcome W F → Type 0) (v : U) → First (value v)
    → (outcome : Outcome W F) → Then (Second v) Third outcome → Then (Then First Second) Third outcome
behind First Second Third v first outcome (stops a) = stops (goes_on {v = v} first a)
behind First Second Third v first outcome (goes_on {v = w} a m) = goes_on {v = w} (goes_on {v = v} first a) m

-- a thing that was answered is one of the stage, and so is a fault, unless it says that no memory is left
module _ {T F : Type 0} {low : F} {Stage : Outcome T F → Type 0} where
  pub thing_told : {thing : T} → Answers low Stage (Ok thing) → Stage (value thing)
  thing_told (gives comes) = comes

  pub fault_told : {fault : F} → Answers low Stage (Err fault) → fault ≢ low → Stage (refused fault)
  fault_told (refuses comes) known = comes
  fault_told no_memory known = absurd (known refl)

-- a fault of a layout that was answered is one of the stage, unless it says that no memory is left
pub fault_found : {T V : Type 0} (Stage : Outcome V LayoutFault → Type 0) (IsFor : V → T → Type 0) (fault : LayoutFault)
    → Analyses Stage IsFor (Err fault) → fault ≢ LayoutMemory → Stage (refused fault)
fault_found Stage IsFor fault (refuses (gives_refusal comes)) known = comes
fault_found Stage IsFor fault no_memory known = absurd (known refl)

-- a thing that was found, by what is seen of it
pub found_as : {T V : Type 0} (view : T → V) (Stage : Outcome V Refusal → Type 0) (failures : Change ℕ) (SomeFile : Type 0) (thing : T)
    → FindsInFiles failures SomeFile Stage (λ v one. v ≡ view one) (Ok thing) → IsCalm failures × Stage (value (view thing))
found_as view Stage failures SomeFile thing (files_serve calm (gives (gives_thing comes is))) = (calm, subst (λ v. Stage (value v)) is comes)

pub found_bytes : (Stage : Outcome (List ℕ) Refusal → Type 0) (failures : Change ℕ) (SomeFile : Type 0) (read : Vec ℕ Global)
    → FindsInFiles failures SomeFile Stage AreItems (Ok read) → IsCalm failures × Stage (value read.items)
found_bytes Stage failures SomeFile read found = found_as (λ (bytes : Vec ℕ Global). bytes.items) Stage failures SomeFile read found

-- what was not found, where another stage is refused as this one is
module _ {T U V W : Type 0} (failures : Change ℕ) (SomeFile OtherFile : Type 0) (Stage : Outcome V Refusal → Type 0) (IsFor : V → T → Type 0)
    (Other : Outcome W Refusal → Type 0) (IsAlso : W → U → Type 0) (named : SomeFile → OtherFile) (each : (refusal : Refusal) → Stage (refused refusal) → Other (refused refusal)) where
  missed : (why : Unreported) → FindsInFiles failures SomeFile Stage IsFor (Err why) → FindsInFiles failures OtherFile Other IsAlso (Err why)
  missed why (files_serve calm (refuses (gives_refusal {refusal = r} comes))) = files_serve calm (refuses (gives_refusal (each r comes)))
  missed why (files_serve calm no_memory) = files_serve calm no_memory
  missed why (files_fail risen some) = files_fail risen (named some)

  pub not_found : (why : Unreported) (result : Result U Unreported) → IsErrAnd result (λ same. same ≡ why) → FindsInFiles failures SomeFile Stage IsFor (Err why)
      → FindsInFiles failures OtherFile Other IsAlso result
  not_found why (Ok thing) gave found = absurd gave
  not_found why (Err same) gave found = subst (λ known. FindsInFiles failures OtherFile Other IsAlso (Err known)) (sym gave) (missed why found)

-- ---- what files may have

-- some bytes that a file may have
pub may_have_some : (told : Option (List ℕ)) → MayHave told (unwrap_or told [])
may_have_some (Some all) = refl
may_have_some None = All-nil IsByte

module _ (told : List ℕ → Option (List ℕ)) where
  -- some contents of files
  abbrev pub some_contents : List ℕ → List ℕ
  some_contents name = unwrap_or (told name) []

  pub some_may_be : MayContain told some_contents
  some_may_be name = may_have_some (told name)

-- bytes that were found are no more than the limit
pub found_short : (told : List ℕ → Option (List ℕ)) (source : Source) (limit : ℕ) (too_long : Refusal) (failures : Change ℕ) (SomeFile : Type 0) (read : Vec ℕ Global)
    → FindsInFiles failures SomeFile (BytesMayCome told source limit too_long) AreItems (Ok read) → length read.items ≤ limit
found_short told source limit too_long failures SomeFile read found = go came.comes where
  came : BytesMayCome told source limit too_long (value read.items)
  came = (found_bytes (BytesMayCome told source limit too_long) failures SomeFile read found).1

  go : Reads (IsShortEnough limit (bytes_from came.bytes source)) too_long (value read.items) → length read.items ≤ limit
  go (reads is) = subst (λ text. length text ≤ limit) (sym is.is_text) is.short
