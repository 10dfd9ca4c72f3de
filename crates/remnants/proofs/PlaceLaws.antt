-- places of boxes, and kept boxes, one after the other
use Rattle.std.proofs.Common.{ℕ, List, [], ◌∷◌, ◌++◌, ◌≡◌, ◌<◌, ◌+◌, length, refl, subst, sym, inl, inr, ap, ◌∙◌, arith, All, Some, slice_get}
use Rattle.lists.proofs.Containing.{number_of, all_of_each, Contains-slice_get, slice_get-front, slice_get-back}
use Rattle.lists.proofs.Words.{slice_get_within, same_Some, length_push, Contains-push_cases}
use Rattle.half_boxes.specs.declared.boxes.HalfBox.{HalfBox}
use Rattle.remnants.specs.declared.parts.Fixed.{Fixed}
use Rattle.remnants.specs.inside.Keeping.{Matters, ArePlaces, AreKept}
use Rattle.remnants.proofs.LeaderLaws.{below_or_last}

-- ---- places, box by box

-- the places of so many boxes
pub record ArePlacesTo (outer : HalfBox) (fixed : List Fixed) (count : ℕ) (places numbers : List ℕ) : Type 0 where
  pub one_each : length numbers ≡ count
  pub known : (n k : ℕ) → slice_get places n ≡ Some k → k < count
  pub placed : (k : ℕ) (one : Fixed) → k < count → slice_get fixed k ≡ Some one → Matters outer k one → (n : ℕ) × (slice_get numbers k ≡ Some n) × (slice_get places n ≡ Some k)

pub no_places : (outer : HalfBox) (fixed : List Fixed) → ArePlacesTo outer fixed 0 [] []
no_places outer fixed = record { one_each = refl; known = λ n k e. cc e; placed = λ k one small. absurd (omega arith) }

pub all_places : (outer : HalfBox) (fixed : List Fixed) (count : ℕ) (places numbers : List ℕ) → length fixed ≡ count → ArePlacesTo outer fixed count places numbers
    → ArePlaces outer fixed places numbers
all_places outer fixed count places numbers all are = record {
  one_each = are.one_each ∙ sym all;
  known = λ n k e. let small = are.known n k e in omega arith;
  placed = λ k one e m. let small = slice_get_within fixed k one e in are.placed k one (omega arith) e m;
}

module _ (outer : HalfBox) (fixed : List Fixed) (count : ℕ) (places numbers : List ℕ) (so_far : ArePlacesTo outer fixed count places numbers) (one : Fixed)
    (here : slice_get fixed count ≡ Some one) (next : ℕ) (next_is : next ≡ length places) where
  last_number : slice_get (numbers ++ next ∷ []) count ≡ Some next
  last_number = let place : length numbers + 0 ≡ count = let many = so_far.one_each in omega arith in ap (slice_get (numbers ++ next ∷ [])) (sym place) ∙ slice_get-back numbers (next ∷ []) 0

  long : length (numbers ++ next ∷ []) ≡ count + 1
  long = let many = so_far.one_each in let more = length_push numbers next in omega arith

  -- a box that matters
  pub place_more : ArePlacesTo outer fixed (count + 1) (places ++ count ∷ []) (numbers ++ next ∷ [])
  place_more = record {
    one_each = long;
    known = λ n k e. elim (Contains-push_cases places count k (Contains-slice_get _ n k e)) [
      | inl old ↦ let x = number_of places k old in let small = so_far.known x.0 k x.1 in omega arith
      | inr same ↦ omega arith
    ];
    placed = λ k other small e m. elim (below_or_last k count small) [
      | inl before ↦ let x = so_far.placed k other before e m in (x.0, slice_get-front numbers (next ∷ []) k x.0 x.1, slice_get-front places (count ∷ []) x.0 k x.2)
      | inr last ↦
          let place : length places + 0 ≡ next = omega arith in
          (next, ap (slice_get (numbers ++ next ∷ [])) last ∙ last_number, ap (slice_get (places ++ count ∷ [])) (sym place) ∙ slice_get-back places (count ∷ []) 0 ∙ ap Some (sym last))
    ];
  }

  -- one that does not
  pub place_none : (Matters outer count one → ⊥) → ArePlacesTo outer fixed (count + 1) places (numbers ++ next ∷ [])
  place_none not_here = record {
    one_each = long;
    known = λ n k e. let small = so_far.known n k e in omega arith;
    placed = λ k other small e m. elim (below_or_last k count small) [
      | inl before ↦ let x = so_far.placed k other before e m in (x.0, slice_get-front numbers (next ∷ []) k x.0 x.1, x.2)
      | inr last ↦
          let same : other ≡ one = same_Some other one (sym e ∙ ap (slice_get fixed) last ∙ here) in
          absurd (not_here (subst (λ i. Matters outer i one) last (subst (λ (x : Fixed). Matters outer k x) same m)))
    ];
  }

-- ---- kept boxes, place by place

pub record AreKeptTo (fixed : List Fixed) (places numbers : List ℕ) (count : ℕ) (kept : List Fixed) : Type 0 where
  pub as_many : length kept ≡ count
  pub each : (n k m : ℕ) (one : Fixed) → n < count → slice_get places n ≡ Some k → slice_get fixed k ≡ Some one → slice_get numbers one.leader ≡ Some m
      → slice_get kept n ≡ Some (record { part = one.part; leader = m })

pub none_kept : (fixed : List Fixed) (places numbers : List ℕ) → AreKeptTo fixed places numbers 0 []
none_kept fixed places numbers = record { as_many = refl; each = λ n k m one small. absurd (omega arith) }

pub all_kept : (fixed : List Fixed) (places numbers : List ℕ) (count : ℕ) (kept : List Fixed) → length places ≡ count → AreKeptTo fixed places numbers count kept → AreKept fixed places numbers kept
all_kept fixed places numbers count kept all so_far = record {
  as_many = so_far.as_many ∙ sym all;
  each = λ n k m one e f g. let small = slice_get_within places n k e in so_far.each n k m one (omega arith) e f g;
}

pub kept_more : (fixed : List Fixed) (places numbers : List ℕ) (count k m : ℕ) (kept : List Fixed) (one : Fixed) → slice_get places count ≡ Some k → slice_get fixed k ≡ Some one
    → slice_get numbers one.leader ≡ Some m
    → AreKeptTo fixed places numbers count kept → AreKeptTo fixed places numbers (count + 1) (kept ++ record { part = one.part; leader = m } ∷ [])
kept_more fixed places numbers count k m kept one at has leads so_far =
    let new : Fixed = record { part = one.part; leader = m } in record {
      as_many = let many = so_far.as_many in let more = length_push kept new in omega arith;
      each = λ n k' m' other small e f g. elim (below_or_last n count small) [
        | inl before ↦ slice_get-front kept (new ∷ []) n (record { part = other.part; leader = m' }) (so_far.each n k' m' other before e f g)
        | inr last ↦
            let same_place : k ≡ k' = same_Some k k' (sym at ∙ ap (slice_get places) (sym last) ∙ e) in
            let same : one ≡ other = same_Some one other (sym has ∙ ap (slice_get fixed) same_place ∙ f) in
            let same_number : m ≡ m' = same_Some m m' (sym leads ∙ ap (λ (x : Fixed). slice_get numbers x.leader) same ∙ g) in
            let place : length kept + 0 ≡ n = let many = so_far.as_many in omega arith in
            let there : slice_get (kept ++ new ∷ []) n ≡ Some new = ap (slice_get (kept ++ new ∷ [])) (sym place) ∙ slice_get-back kept (new ∷ []) 0 in
            there ∙ ap (λ (x : Fixed). Some (record { part = x.part; leader = m })) same ∙ ap (λ l. Some (record { part = other.part; leader = l })) same_number
      ];
    }

pub places_small : (outer : HalfBox) (fixed : List Fixed) (places numbers : List ℕ) → ArePlaces outer fixed places numbers → All (λ place. place < length fixed) places
places_small outer fixed places numbers are = all_of_each (λ place. place < length fixed) places (λ place h. let n = number_of places place h in are.known n.0 place n.1)
