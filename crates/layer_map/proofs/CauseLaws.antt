-- values of a list that may not stand there
use Rattle.std.proofs.Common.{◌≡◌, ℕ, ℤ, false, w64, to_z, of_z, SFits, ◌-◌, ◌<◌, ◌≤◌, List, length, get_or, map, Option, None, Some, slice_get, refl, sym, ap, ◌∙◌, subst, inl, inr, true, arith}
use Rattle.std.specs.Prelude.{◌≤ℤ◌, IfNone, IfSome, IsSomeAnd}
use Rattle.lists.proofs.Words.{cases_lt, lt_z, ints, length-map, same_Some, slice_get_past}
use Rattle.toml.specs.Data.{Data, as_integer}
use Rattle.toml.specs.View.{view}
use Rattle.toml.specs.declared.value.Value.{Value}
use Rattle.layer_map.specs.MapCauses.{FallsAt, IsCauseIn, IsFall, IsOutside}
use Rattle.layer_map.specs.inside.ReadValues.{IsWholeIn}
use Rattle.layer_map.specs.declared.cause.Asked.{Asked}
use Rattle.layer_map.specs.declared.cause.Cause.{Cause}
use Rattle.layer_map.specs.declared.cause.Cause.TheVariants.{TooMany, Uneven, Outside, Falls}
use Rattle.layer_map.proofs.SearchLaws.{there}
use Rattle.layer_map.proofs.ValueLaws.{integer_is}

module _ (vs : List Value) (i : ℕ) where
  -- the value with this number
  pub value_at : (v : Value) → i < length vs → v ≡ get_or vs i v → slice_get (map view vs) i ≡ Some (view v)
  value_at v within is = there view vs (view v) i v within is refl

  pub outside_at : (v : Value) (low high : ℕ) → i < length vs → v ≡ get_or vs i v → ((n : ℕ) → IsWholeIn low high (view v) n → ⊥)
      → IsSomeAnd (slice_get (map view vs) i) (IsOutside low high)
  outside_at v low high within is not =
      rw (value_at v within is) (λ n same least most. not n (record { written = same; is = record { least = least; most = most } }))

  pub inside_at : (v : Value) (low high n : ℕ) → i < length vs → v ≡ get_or vs i v → IsWholeIn low high (view v) n → IsSomeAnd (slice_get (map view vs) i) (IsOutside low high) → ⊥
  inside_at v low high n within is whole out = (rw (value_at v within is) at out) n whole.written whole.is.least whole.is.most

pub some_within : {A : Type 0} (P : A → Type 0) (xs : List A) (k : ℕ) → IsSomeAnd (slice_get xs k) P → k < length xs
some_within P xs k some = elim (cases_lt k (length xs)) [
  | inl within ↦ within
  | inr past ↦ absurd (subst (λ found. IsSomeAnd found P) (slice_get_past xs k past) some)
]

-- where none is so before a place past the last, none is
module _ (vs : List Value) (n : ℕ) (all : length vs ≤ n) where
  pub none_outside : (low high : ℕ) → ((k : ℕ) → k < n → IsSomeAnd (slice_get (map view vs) k) (IsOutside low high) → ⊥) → (k : ℕ)
      → IsSomeAnd (slice_get (map view vs) k) (IsOutside low high) → ⊥
  none_outside low high before k out = before k (omega (arith, some_within (IsOutside low high) (map view vs) k out, length-map vs view)) out

  pub none_falls : ((k : ℕ) → k < n → FallsAt (map view vs) k → ⊥) → (k : ℕ) → FallsAt (map view vs) k → ⊥
  none_falls before k (earlier, is, falls) = before k (omega (arith, within (slice_get (map view vs) earlier) falls, length-map vs view)) (earlier, is, falls)
    where
      within : (found : Option Data) → IsSomeAnd found (λ one. IsSomeAnd (slice_get (map view vs) k) (IsFall one)) → k < length (map view vs)
      within None no_value = absurd no_value
      within (Some one) some = some_within (IsFall one) (map view vs) k some

module _ (vs : List Value) (i : ℕ) (one other : Value) (some : 1 ≤ i) (within : i < length vs) (is_one : one ≡ get_or vs (i - 1) one) (is_other : other ≡ get_or vs i other) where
  pub falls_at : IsFall (view one) (view other) → FallsAt (map view vs) i
  falls_at fall =
      let before = value_at vs (i - 1) one (omega arith) is_one in
      let at = value_at vs i other within is_other in
      (i - 1, omega arith, rw (before, at) fall)

  pub rises_at : (IsFall (view one) (view other) → ⊥) → FallsAt (map view vs) i → ⊥
  rises_at not (earlier, is, falls) =
      let same : earlier ≡ i - 1 = omega arith in
      let before = value_at vs (i - 1) one (omega arith) is_one in
      let at = value_at vs i other within is_other in
      not (rw (same, before, at) at falls)

-- a cause, by those that are looked for one after the other
pub at_none : {T : Type 0} {P : Type 0} (result : Option T) → ((x : T) → result ≡ Some x → ⊥) → IfNone result P → P
at_none None not h = h
at_none (Some x) not h = absurd (not x refl)

module _ (asked : Asked) (values : List Data) (sizes : ℕ) where
  pub some_fall : (result : Option Cause) → IfSome result (λ cause. (n : ℕ) → IsCauseIn asked values n cause) → IfSome result (IsCauseIn asked values sizes)
  some_fall None is = tt
  some_fall (Some cause) is = is sizes

  pub no_cause : ((n count most : ℕ) → IsCauseIn asked values n (TooMany count most) → ⊥) → ((count wanted : ℕ) → IsCauseIn asked values sizes (Uneven count wanted) → ⊥)
      → ((n number low high : ℕ) → IsCauseIn asked values n (Outside number low high) → ⊥) → (result : Option Cause)
      → IfNone result ((n number : ℕ) → IsCauseIn asked values n (Falls number) → ⊥) → IfNone result ((cause : Cause) → IsCauseIn asked values sizes cause → ⊥)
  no_cause many odd out (Some cause) falls = tt
  no_cause many odd out None falls = λ cause is. by_cause cause is
    where
      by_cause : (cause : Cause) → IsCauseIn asked values sizes cause → ⊥
      by_cause (TooMany count most) is = many sizes count most is
      by_cause (Uneven count wanted) is = odd count wanted is
      by_cause (Outside number low high) is = out sizes number low high is
      by_cause (Falls number) is = falls sizes number is

not_greater_is : (first second : ℤ) → SFits w64 first → SFits w64 second → lt_z (to_z w64 (of_z w64 first)) (to_z w64 (of_z w64 second)) ≡ false → second ≤ℤ first
not_greater_is first second first_fits second_fits not = grind (arith, ints)

pub fall_of : (one other : Data) (first second : ℤ) → Some first ≡ as_integer one → Some second ≡ as_integer other → SFits w64 first → SFits w64 second
    → lt_z (to_z w64 (of_z w64 first)) (to_z w64 (of_z w64 second)) ≡ false → IsFall one other
fall_of one other first second is_first is_second first_fits second_fits not = record {
  first = first;
  second = second;
  is_first = integer_is one first is_first;
  is_second = integer_is other second is_second;
  not_greater = not_greater_is first second first_fits second_fits not;
}

greater_is : (first second : ℤ) → SFits w64 first → SFits w64 second → lt_z (to_z w64 (of_z w64 first)) (to_z w64 (of_z w64 second)) ≡ true → second ≤ℤ first → ⊥
greater_is first second first_fits second_fits less not = grind (arith, ints)

pub rise_of : (one other : Data) (first second : ℤ) → Some first ≡ as_integer one → Some second ≡ as_integer other → SFits w64 first → SFits w64 second
    → lt_z (to_z w64 (of_z w64 first)) (to_z w64 (of_z w64 second)) ≡ true → IsFall one other → ⊥
rise_of one other first second is_first is_second first_fits second_fits less fall =
    let one_is : fall.first ≡ first = same_Some _ _ (sym (is_first ∙ ap as_integer fall.is_first)) in
    let other_is : fall.second ≡ second = same_Some _ _ (sym (is_second ∙ ap as_integer fall.is_second)) in
    greater_is first second first_fits second_fits less (subst (λ (z : ℤ). z ≤ℤ first) other_is (subst (λ (z : ℤ). fall.second ≤ℤ z) one_is fall.not_greater))

pub no_first : (one other : Data) → None ≡ as_integer one → IsFall one other → ⊥
no_first one other none fall = let e : None ≡ Some fall.first = none ∙ ap as_integer fall.is_first in cc e

pub no_second : (one other : Data) → None ≡ as_integer other → IsFall one other → ⊥
no_second one other none fall = let e : None ≡ Some fall.second = none ∙ ap as_integer fall.is_second in cc e
