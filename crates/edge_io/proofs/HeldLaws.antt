-- files by number and by name
use Rattle.std.proofs.Common.{ℕ, suc, ◌+◌, ◌<◌, ◌≡◌, refl, sym, ap, ◌∙◌, List, [], ◌∷◌, length, Bool, true, false, inl, inr, arith, find, slice_get, Some, None, IsSome, not, cond, nat_lt}
use Rattle.lists.proofs.Words.{ltb-true, slice_get_past, position_or_len, prefix_len, position, bytes_eq}
use Rattle.std.proofs.lemmas.Bool.{ltb-false}
use Rattle.std.proofs.lemmas.Option.{cond_some, slice_get_cases}
use Rattle.std.specs.Prelude.{IsNone}
use Rattle.edge_io.specs.Held.{HeldFile, contents_of, rest_at, IsPlaced}

-- what stands at the first place is the first found
found_at : {X : Type 0} (p : X → Bool) (xs : List X) → slice_get xs (position_or_len p xs) ≡ find p xs
found_at p [] = refl
found_at p (x ∷ xs) =
    let here = found_at p xs in
    elim (p x) as (λ b. slice_get (x ∷ xs) (cond (not b) (1 + prefix_len (λ y. not (p y)) xs) 0) ≡ cond b (Some x) (find p xs)) [
      | true ↦ refl
      | false ↦ let next : 1 + position_or_len p xs ≡ suc (position_or_len p xs) = omega arith in rw next here
    ]

-- the item at the first place
found_position : {X : Type 0} (p : X → Bool) (xs : List X) (k : ℕ) → Some k ≡ position p xs → (x : X) × (slice_get xs k ≡ Some x) × (find p xs ≡ Some x)
found_position p xs k e =
    let at = cond_some (nat_lt (position_or_len p xs) (length xs)) (position_or_len p xs) k (sym e) in
    let within : position_or_len p xs < length xs = ltb-true _ _ at.0 in
    let here : slice_get xs k ≡ find p xs = ap (slice_get xs) (sym at.1) ∙ found_at p xs in
    elim (slice_get_cases xs k).1 [
      | inl h ↦ (h.0, h.2, sym here ∙ h.2)
      | inr h ↦ absurd (omega (arith, h.0, at.1))
    ]

cond_none : (b : Bool) (n : ℕ) → None ≡ cond b (Some n) None → b ≡ false
cond_none true n e = absurd (cc e)
cond_none false n e = refl

-- no place
not_found : {X : Type 0} (p : X → Bool) (xs : List X) → None ≡ position p xs → find p xs ≡ None
not_found p xs e =
    let past = ltb-false _ _ (cond_none (nat_lt (position_or_len p xs) (length xs)) (position_or_len p xs) e) in
    sym (found_at p xs) ∙ slice_get_past xs (position_or_len p xs) past

-- a file that has the name, by its number
pub record IsHeld (files : List HeldFile) (name : List ℕ) (number : ℕ) : Type 0 where
  pub placed : IsPlaced files (Some (number, 0))
  pub unread : rest_at files (Some (number, 0)) ≡ contents_of files name
  pub found : IsSome (contents_of files name)

pub held : (files : List HeldFile) (name : List ℕ) (number : ℕ) → Some number ≡ position (λ file. bytes_eq file.0 name) files → IsHeld files name number
held files name number e =
    let at = found_position (λ (file : HeldFile). bytes_eq file.0 name) files number e in
    record { placed = rw at.1 (omega arith); unread = rw (at.1, at.2); found = rw at.2 refl }

pub not_held : (files : List HeldFile) (name : List ℕ) → None ≡ position (λ file. bytes_eq file.0 name) files → IsNone (contents_of files name)
not_held files name e = rw (not_found (λ (file : HeldFile). bytes_eq file.0 name) files e) refl
