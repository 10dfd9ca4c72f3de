-- checks that are made part by part, and those that are left
use Rattle.std.proofs.Common.{◌≡◌, List, [], ◌++◌, Result, Ok, Err, refl, sym, ◌∙◌, subst, append_assoc, append-nil}
use Rattle.std.specs.Prelude.{All}
use Rattle.std.proofs.lemmas.List.Elements.{All-nil, All-append}
use Rattle.first_refusal.proofs.JudgeLaws.{Judges, goes_on, passed, stops}

-- of all checks those in front hold, and the rest is left
pub record HoldsSoFar {N : Type 0} (Holds : N → Type 0) (all rest : List N) : Type 0 where
  pub front : List N
  pub parts : all ≡ front ++ rest
  pub holds : All Holds front

module _ {N : Type 0} (Holds : N → Type 0) where
  pub nothing_yet : (all : List N) → HoldsSoFar Holds all all
  nothing_yet all = record { front = []; parts = refl; holds = All-nil Holds }

  pub further : (all part rest : List N) → HoldsSoFar Holds all (part ++ rest) → All Holds part → HoldsSoFar Holds all rest
  further all part rest far holds = record {
    front = far.front ++ part;
    parts = far.parts ∙ sym (append_assoc far.front part rest);
    holds = All-append Holds far.front part far.holds holds;
  }

  pub all_of_them : (all : List N) → HoldsSoFar Holds all [] → All Holds all
  all_of_them all far = subst (All Holds) (sym (far.parts ∙ append-nil far.front)) far.holds

module _ {N F : Type 0} {memory : F} (Holds : N → Type 0) (fault_of : N → F) where
  pub rest_decides : {T : Type 0} (Is : T → Type 0) (all rest : List N) (result : Result T F) → HoldsSoFar Holds all rest
      → Judges memory Holds rest fault_of Is result → Judges memory Holds all fault_of Is result
  rest_decides Is all rest result far told = subst (λ checks. Judges memory Holds checks fault_of Is result) (sym far.parts)
      (goes_on Holds fault_of Is far.front rest result far.holds told)

  pub part_stops : {T U : Type 0} (Is : T → Type 0) (Js : U → Type 0) (all part rest : List N) (fault : F) → HoldsSoFar Holds all (part ++ rest)
      → Judges memory Holds part fault_of Is (Err fault) → Judges memory Holds all fault_of Js (Err fault)
  part_stops Is Js all part rest fault far told = rest_decides Js all (part ++ rest) (Err fault) far (stops Holds fault_of Is Js part rest fault told)

  -- a part was answered with a value, so it held
  pub past : {T : Type 0} {Is : T → Type 0} {thing : T} (all part rest : List N) → HoldsSoFar Holds all (part ++ rest)
      → Judges memory Holds part fault_of Is (Ok thing) → HoldsSoFar Holds all rest
  past all part rest far told = further Holds all part rest far (passed told)
