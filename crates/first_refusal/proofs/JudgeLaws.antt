-- answers to checks, put together from answers to their parts
use Rattle.std.proofs.Common.{◌≡◌, List, [], ◌∷◌, ◌++◌, map, Result, Ok, Err, refl, sym, ap, ◌∙◌, append_assoc, suc, arith}
use Rattle.std.specs.Prelude.{All}
use Rattle.std.proofs.lemmas.List.{map-append}
use Rattle.std.proofs.lemmas.List.Elements.{All-nil, All-cons, All-append}
use Rattle.first_refusal.specs.Answers.{Answers, gives, refuses, no_memory}
use Rattle.first_refusal.specs.Checks.{IsFirstFailing, Checks, all_hold, one_fails}
use Rattle.first_refusal.proofs.CheckLaws.{fails_at_once}

-- the answer to checks with what is read where they hold
abbrev pub Judges : {N T F : Type 0} → F → (N → Type 0) → List N → (N → F) → (T → Type 0) → Result T F → Type 0
Judges memory Holds checks fault_of Is = Answers memory (Checks Holds checks fault_of Is)

module _ {N : Type 0} (Holds : N → Type 0) where
  fails_after : (front rest : List N) (check : N) → All Holds front → IsFirstFailing Holds rest check → IsFirstFailing Holds (front ++ rest) check
  fails_after front rest check all f = record {
    before = front ++ f.before;
    after = f.after;
    parts = ap (λ xs. front ++ xs) f.parts ∙ sym (append_assoc front f.before (check ∷ f.after));
    all_before = All-append Holds front f.before all f.all_before;
    fails = f.fails;
  }

  fails_before : (front rest : List N) (check : N) → IsFirstFailing Holds front check → IsFirstFailing Holds (front ++ rest) check
  fails_before front rest check f = record {
    before = f.before;
    after = f.after ++ rest;
    parts = ap (λ xs. xs ++ rest) f.parts ∙ append_assoc f.before (check ∷ f.after) rest;
    all_before = f.all_before;
    fails = f.fails;
  }

-- where checks were answered with a value, all of them hold, and the value is what was to be read
module _ {N T F : Type 0} {memory : F} {Holds : N → Type 0} {checks : List N} {fault_of : N → F} {Is : T → Type 0} {thing : T} where
  pub passed : Judges memory Holds checks fault_of Is (Ok thing) → All Holds checks
  passed (gives (all_hold all is)) = all

  pub given : Judges memory Holds checks fault_of Is (Ok thing) → Is thing
  given (gives (all_hold all is)) = is

module _ {N F : Type 0} {memory : F} (Holds : N → Type 0) (fault_of : N → F) where
  -- the first check fails
  pub fails_first : {T : Type 0} (Is : T → Type 0) (check : N) (checks : List N) → (Holds check → ⊥) → Judges memory Holds (check ∷ checks) fault_of Is (Err (fault_of check))
  fails_first Is check checks not = refuses (one_fails (record { check = check; is_first = fails_at_once Holds check checks not; is_its_refusal = refl }))

  -- checks hold, and so do more
  pub passes : {T : Type 0} (Is : T → Type 0) (checks : List N) (thing : T) → All Holds checks → Is thing → Judges memory Holds checks fault_of Is (Ok thing)
  passes Is checks thing all is = gives (all_hold all is)

  -- the first checks fail
  pub stops : {T U : Type 0} (Is : T → Type 0) (Js : U → Type 0) (front rest : List N) (fault : F) → Judges memory Holds front fault_of Is (Err fault)
      → Judges memory Holds (front ++ rest) fault_of Js (Err fault)
  stops Is Js front rest fault (refuses (one_fails f)) = refuses (one_fails (record {
    check = f.check;
    is_first = fails_before Holds front rest f.check f.is_first;
    is_its_refusal = f.is_its_refusal;
  }))
  stops Is Js front rest _ no_memory = no_memory

  -- the first checks hold, and others decide
  pub goes_on : {T : Type 0} (Is : T → Type 0) (front rest : List N) (result : Result T F) → All Holds front → Judges memory Holds rest fault_of Is result
      → Judges memory Holds (front ++ rest) fault_of Is result
  goes_on Is front rest (Ok thing) all (gives (all_hold also is)) = gives (all_hold (All-append Holds front rest all also) is)
  goes_on Is front rest (Err fault) all (refuses (one_fails f)) = refuses (one_fails (record {
    check = f.check;
    is_first = fails_after Holds front rest f.check all f.is_first;
    is_its_refusal = f.is_its_refusal;
  }))
  goes_on Is front rest (Err _) all no_memory = no_memory

  -- the same with more known of what is read
  pub weaker : {T : Type 0} (Is Js : T → Type 0) (checks : List N) (result : Result T F) → ((thing : T) → Is thing → Js thing) → Judges memory Holds checks fault_of Is result
      → Judges memory Holds checks fault_of Js result
  weaker Is Js checks (Ok thing) more (gives (all_hold all is)) = gives (all_hold all (more thing is))
  weaker Is Js checks (Err fault) more (refuses (one_fails f)) = refuses (one_fails f)
  weaker Is Js checks (Err _) more no_memory = no_memory

-- where a check fails, or no memory is left, it does not matter what would have been read
pub unread : {N T U F : Type 0} {memory : F} (Holds : N → Type 0) (fault_of : N → F) (Is : T → Type 0) (Js : U → Type 0) (checks : List N) (fault : F)
    → Judges memory Holds checks fault_of Is (Err fault) → Judges memory Holds checks fault_of Js (Err fault)
unread Holds fault_of Is Js checks fault (refuses (one_fails f)) = refuses (one_fails f)
unread Holds fault_of Is Js checks _ no_memory = no_memory

-- the same checks by other names
module _ {N M F : Type 0} (Holds : N → Type 0) (Means : M → Type 0) (fault_of : N → F) (fault_by : M → F) (named : N → M)
    (onward : (check : N) → Holds check → Means (named check)) (back : (check : N) → Means (named check) → Holds check) (same : (check : N) → fault_by (named check) ≡ fault_of check) where
  pub all_renamed : (checks : List N) → All Holds checks → All Means (map named checks)
  all_renamed [] all = All-nil Means
  all_renamed (c ∷ checks) all = All-cons Means (named c) (map named checks) (onward c (all 0 c (omega arith))) (all_renamed checks (λ k d within. all (suc k) d (omega arith)))

  first_renamed : (checks : List N) (check : N) → IsFirstFailing Holds checks check → IsFirstFailing Means (map named checks) (named check)
  first_renamed checks check f = record {
    before = map named f.before;
    after = map named f.after;
    parts = ap (map named) f.parts ∙ map-append named f.before (check ∷ f.after);
    all_before = all_renamed f.before f.all_before;
    fails = λ h. f.fails (back check h);
  }

  pub renamed : {T : Type 0} {memory : F} (Is : T → Type 0) (checks : List N) (result : Result T F) → Judges memory Holds checks fault_of Is result
      → Judges memory Means (map named checks) fault_by Is result
  renamed Is checks (Ok thing) (gives (all_hold all is)) = gives (all_hold (all_renamed checks all) is)
  renamed Is checks (Err fault) (refuses (one_fails f)) =
      refuses (one_fails (record { check = named f.check; is_first = first_renamed checks f.check f.is_first; is_its_refusal = f.is_its_refusal ∙ sym (same f.check) }))
  renamed Is checks (Err _) no_memory = no_memory
