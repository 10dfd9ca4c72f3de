-- the first check that fails, where checks are those of one item after another
use Rattle.std.proofs.Common.{ℕ, suc, ◌+◌, ◌<◌, ◌≡◌, ◌≢◌, List, ◌∷◌, ◌++◌, length, get_or, map, take, drop, Err, refl, sym, ap, subst, ◌∙◌, All}
use Rattle.lists.proofs.Words.{flat_map, range_with_len, drop-cons, flat_map-append, All-append, take-append-drop}
use Rattle.lists.proofs.Reading.{flat_map_next}
use Rattle.first_refusal.specs.Outcomes.{Outcome, refused}
use Rattle.first_refusal.specs.Answers.{Answers, refuses, no_memory}
use Rattle.first_refusal.proofs.JudgeLaws.{Judges, fails_first, goes_on, stops}
use Rattle.flatten.proofs.NumberLaws.{all_numbers, numbers_parted}

-- a fault that is not want of memory is the stage's
pub refused_by : {T F : Type 0} {memory : F} {Stage : Outcome T F → Type 0} {fault : F} → Answers memory Stage (Err fault) → fault ≢ memory → Stage (refused fault)
refused_by (refuses told) other = told
refused_by no_memory other = absurd (other refl)

module _ {X Y : Type 0} (of : X → List Y) (xs : List X) (i : ℕ) (x : X) (more : i < length xs) (is : x ≡ get_or xs i x) where
  -- what comes of items, the next of which is this one
  pub next_added : flat_map of (take (i + 1) xs) ≡ flat_map of (take i xs) ++ of x
  next_added = sym (flat_map_next of xs i x (flat_map of (take i xs)) _ more is refl refl)

  next_parted : flat_map of xs ≡ flat_map of (take i xs) ++ (of x ++ flat_map of (drop (suc i) xs))
  next_parted = ap (flat_map of) (sym (take-append-drop i xs) ∙ ap (λ rest. take i xs ++ rest) (rw (← is) at (drop-cons xs i x more))) ∙ flat_map-append of (take i xs) (x ∷ drop (suc i) xs)

  module _ (Holds : Y → Type 0) (all : All Holds (flat_map of (take i xs))) where
    pub hold_at : All Holds (of x) → All Holds (flat_map of (take (i + 1) xs))
    hold_at here = subst (All Holds) (sym next_added) (All-append Holds (flat_map of (take i xs)) (of x) all here)

    -- the checks of the next item refuse
    pub refused_at : {T U F : Type 0} {memory : F} (refusal_of : Y → F) (Is : T → Type 0) (Js : U → Type 0) (fault : F) → Judges memory Holds (of x) refusal_of Is (Err fault)
        → Judges memory Holds (flat_map of xs) refusal_of Js (Err fault)
    refused_at {memory} refusal_of Is Js fault told =
        rw next_parted (goes_on Holds refusal_of Js (flat_map of (take i xs)) _ (Err fault) all (stops Holds refusal_of Is Js (of x) (flat_map of (drop (suc i) xs)) fault told))

-- the first number of which the check fails
pub first_number : {N T F : Type 0} {memory : F} (Holds : N → Type 0) (refusal_of : N → F) (Is : T → Type 0) (say : ℕ → N) (n k : ℕ) → k < n → ((i : ℕ) → i < k → Holds (say i)) → (Holds (say k) → ⊥)
    → Judges memory Holds (map say (range_with_len 0 n)) refusal_of Is (Err (refusal_of (say k)))
first_number Holds refusal_of Is say n k within before fails =
    rw (numbers_parted say n k within) (goes_on Holds refusal_of Is (map say (range_with_len 0 k)) _ (Err _) (all_numbers say Holds k before) (fails_first Holds refusal_of Is (say k) _ fails))
