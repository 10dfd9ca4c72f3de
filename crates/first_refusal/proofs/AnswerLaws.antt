-- answers that are handed on
use Rattle.std.proofs.Common.{◌≡◌, Result, Ok, Err, sym, subst}
use Rattle.std.specs.Prelude.{IfErr, IsErrAnd}
use Rattle.first_refusal.specs.Outcomes.{Outcome, value, refused}
use Rattle.first_refusal.specs.Answers.{Answers, refuses, no_memory}

-- what the exit of a `?` returns has what was shown of the error that it was given
pub error_handed_on : {T E : Type 0} (result : Result T E) (error : E) (P : E → Type 0) → IsErrAnd result (λ same. same ≡ error) → P error → IfErr result P
error_handed_on (Ok thing) error P gave holds = absurd gave
error_handed_on (Err same) error P gave holds = subst P (sym gave) holds

module _ {T F : Type 0} (memory : F) (Stage : Outcome T F → Type 0) where
  -- an answer that is the fault of another call is what that fault is for the stage
  pub handed_on : (result : Result T F) (fault : F) → IsErrAnd result (λ same. same ≡ fault) → Answers memory Stage (Err fault) → Answers memory Stage result
  handed_on (Ok thing) fault gave told = absurd gave
  handed_on (Err same) fault gave told = subst (λ f. Answers memory Stage (Err f)) (sym gave) told

  -- and so is the answer that no memory is left
  pub out_of_memory : (result : Result T F) → IsErrAnd result (λ same. same ≡ memory) → Answers memory Stage result
  out_of_memory result gave = handed_on result memory gave no_memory

  -- where each outcome of the one stage is one of the other under other words, so is the answer; want of memory stays what it is
  pub retold_answer : {V G : Type 0} (low : G) (Lower : Outcome V G → Type 0) (as_value : V → T) (as_fault : G → F) → as_fault low ≡ memory
      → ((v : V) → Lower (value v) → Stage (value (as_value v))) → ((g : G) → Lower (refused g) → Stage (refused (as_fault g)))
      → (fault : G) → Answers low Lower (Err fault) → Answers memory Stage (Err (as_fault fault))
  retold_answer low Lower as_value as_fault same of_value of_fault fault (refuses h) = refuses (of_fault fault h)
  retold_answer low Lower as_value as_fault same of_value of_fault fault no_memory = subst (λ f. Answers memory Stage (Err f)) (sym same) no_memory
