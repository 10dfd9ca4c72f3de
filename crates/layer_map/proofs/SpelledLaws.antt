-- lists of values, each written as something
use Rattle.std.proofs.Common.{◌≡◌, ℕ, ◌+◌, ◌<◌, All, List, [], ◌∷◌, ◌++◌, length, get_or, take, map, None, refl, sym, ap, ◌∙◌, arith}
use Rattle.lists.proofs.Words.{length-map, map-append, get_or-map, All-push, All-get_or, All-cons, All-nil, AllZip}
use Rattle.lists.proofs.Reading.{taken_more}
use Rattle.toml.specs.Data.{Data}
use Rattle.toml.specs.View.{view}
use Rattle.toml.specs.declared.value.Value.{Value}
use Rattle.layer_map.specs.inside.ReadValues.{AreWritten, Finds, IsWritten, lacks}

-- a list is told by what is written for it
pub lists_tell : {A : Type 0} (written : A → Data) → ((one other : A) → written one ≡ written other → one ≡ other) → (xs ys : List A) → map written xs ≡ map written ys → xs ≡ ys
lists_tell written tells [] [] same = refl
lists_tell written tells (x ∷ xs) (y ∷ ys) same =
    let head : x ≡ y = tells x y (cc same) in let tail : xs ≡ ys = lists_tell written tells xs ys (cc same) in cc
lists_tell written tells xs ys same = cc same

-- what is written at one place
pub written_at : {A V : Type 0} (view : V → Data) (written : A → Data) (vs : List V) (things : List A) → map view vs ≡ map written things → (i : ℕ) (v : V) (thing : A) → i < length vs
    → v ≡ get_or vs i v → (i < length things) × (view v ≡ written (get_or things i thing))
written_at view written vs things same i v thing within is =
    let lengths : length vs ≡ length things = sym (length-map vs view) ∙ ap length same ∙ length-map things written in
    let room : i < length things = omega arith in
    (room, ap view is ∙ sym (get_or-map view vs i v (view v) within) ∙ ap (λ ds. get_or ds i (view v)) same ∙ get_or-map written things i thing (view v) room)

-- things of a kind, each written as a value: one more, or a value that is none
module _ {A : Type 0} (as_value : A → Data) (P : A → Type 0) (vs : List Value) (i : ℕ) (v : Value) (within : i < length vs) (is : v ≡ get_or vs i v) where
  pub one_written : (things : List A) (thing : A) → AreWritten as_value (All P) (map view (take i vs)) things → IsWritten as_value P (view v) thing
      → AreWritten as_value (All P) (map view (take (i + 1) vs)) (things ++ thing ∷ [])
  one_written things thing far here = record {
    written = ap (map view) (taken_more vs i v within is) ∙ map-append view (take i vs) (v ∷ []) ∙ ap (λ ds. ds ++ view v ∷ []) far.written
        ∙ ap (λ d. map as_value things ++ d ∷ []) here.written ∙ sym (map-append as_value things (thing ∷ []));
    is = All-push P things thing far.is here.is;
  }

  pub none_written : (Kind : List A → Type 0) → ((things : List A) → Kind things → All P things) → A → ((thing : A) → IsWritten as_value P (view v) thing → ⊥)
      → Finds (AreWritten as_value Kind (map view vs)) None
  none_written Kind each d not = lacks (λ things are.
      let (room, told) = written_at view as_value vs things are.written i v d within is in
      not (get_or things i d) (record { written = told; is = All-get_or P things i d room (each things are.is) }))

-- two lists of which each two items at one place stand so to one another
module _ {A B : Type 0} (R : A → B → Type 0) where
  -- what all of them show is the same
  pub zip_shows : {C : Type 0} (f : A → C) (g : B → C) → ((x : A) (y : B) → R x y → f x ≡ g y) → (xs : List A) (ys : List B) → AllZip R xs ys → map f xs ≡ map g ys
  zip_shows f g tells [] [] all = refl
  zip_shows f g tells (x ∷ xs) (y ∷ ys) all = ap (λ c. c ∷ map f xs) (tells x y all.0) ∙ ap (λ cs. g y ∷ cs) (zip_shows f g tells xs ys all.1)
  zip_shows f g tells xs ys all = absurd all

  -- so do what the second become to the first in another way
  pub zip_becomes : {C : Type 0} (S : A → C → Type 0) (g : B → C) → ((x : A) (y : B) → R x y → S x (g y)) → (xs : List A) (ys : List B) → AllZip R xs ys → AllZip S xs (map g ys)
  zip_becomes S g more [] [] all = tt
  zip_becomes S g more (x ∷ xs) (y ∷ ys) all = (more x y all.0, zip_becomes S g more xs ys all.1)
  zip_becomes S g more xs ys all = absurd all

-- and what is known of the second of each two
pub zip_each : {A B C : Type 0} (R : A → C → Type 0) (g : B → C) (P : B → Type 0) → ((x : A) (y : B) → R x (g y) → P y) → (xs : List A) (ys : List B) → AllZip R xs (map g ys) → All P ys
zip_each R g P tells xs [] all = All-nil P
zip_each R g P tells [] (y ∷ ys) all = absurd all
zip_each R g P tells (x ∷ xs) (y ∷ ys) all = All-cons P y ys (tells x y all.0) (zip_each R g P tells xs ys all.1)
