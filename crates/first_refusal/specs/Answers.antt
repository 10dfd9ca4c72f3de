-- what a call answers that does what a stage says
use Rattle.std.specs.Prelude.{Result, Ok, Err}
use Rattle.first_refusal.specs.Outcomes.{Outcome, value, refused}

-- the call answers what the stage comes to, a value or a fault, or the one fault that says that no memory is left
pub data Answers {T F : Type 0} (memory : F) (Stage : Outcome T F → Type 0) : Result T F → Type 0 where
  gives : {thing : T} → Stage (value thing) → Answers memory Stage (Ok thing)
  refuses : {fault : F} → Stage (refused fault) → Answers memory Stage (Err fault)
  no_memory : Answers memory Stage (Err memory)
