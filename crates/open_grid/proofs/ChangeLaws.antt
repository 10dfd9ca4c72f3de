-- the places at which defects change, by halves that are rounded down
use Rattle.std.proofs.Common.{refl, ℕ, ◌≤◌, ◌≡◌, sym, ap, ◌∙◌, subst, length, take, take_all, get_or, ◌+◌, ◌<◌, List, [], ◌∷◌, ◌++◌, arith, inl, inr, ◌⊎◌, ℤ, pos, ◌-ℤ◌, ◌≤ℤ◌, ◌<ℤ◌, ◌↔◌, Contains, ◌/◌, Some, slice_get, to_z, of_z, w32}
use Rattle.lists.proofs.Words.{by_lt_z, ints, All-push, All-nil, IsPermutation, Contains-permutation, Contains-append_left, Contains-push, IsSorted, int_cmp, slice_get_read}
use Rattle.std.proofs.lemmas.List.Sorted.{All-permutation}
use Rattle.lists.proofs.Containing.{Contains-head, Contains-none, Contains-one, Contains-take_cases}
use Rattle.geo_core.specs.Plane.{low_along, high_along}
use Rattle.geo_core.specs.Plane.{IsInterval}
use Rattle.geo_core.specs.declared.axis.Axis.{Axis}
use Rattle.geo_core.specs.declared.axis.Axis.TheVariants.{X, Y}
use Rattle.geo_core.specs.declared.bounds.TheConstants.{FARTHEST_GROWN}
use Rattle.geo_core.specs.declared.plane.Rect.{Rect}
use Rattle.half_boxes.specs.declared.boxes.HalfBox.{HalfBox}
use Rattle.severing.specs.Changes.{ChangesAt, IsChange, Passes, Reaches}
use Rattle.half_boxes.specs.HalfBoxes.{span_along}
use Rattle.open_grid.specs.inside.Wires.{high_end, low_end}
use Rattle.open_grid.specs.inside.ZoneSteps.{AreChanges, GainsChanges, GainsPlace, IsInsideAlong, IsMiddleChange}
use Rattle.open_grid.specs.declared.looked.Looked.{Looked}

-- ---- one edge

pub reaching_at : (edge place : ℤ) (side : ℕ) → ((x : ℤ) → (place ≤ℤ x) ↔ (edge ≤ℤ high_end x side)) → (x : ℤ) → Reaches edge side x → x ≡ place
reaching_at edge place side from x r =
    let a = r.now in let b = r.not_before in
    let here : place ≤ℤ x = (from x).1 a in
    by_lt_z place x
    (λ l. let before : edge ≤ℤ high_end (x -ℤ pos 1) side = (from (x -ℤ pos 1)).0 (omega (arith, ints)) in absurd (omega (arith, ints)))
    (λ l. omega (arith, ints))

pub passing_at : (edge place : ℤ) (side : ℕ) → ((x : ℤ) → (place ≤ℤ x) ↔ (edge <ℤ low_end x side)) → (x : ℤ) → Passes edge side x → x ≡ place
passing_at edge place side from x r =
    let a = r.now in let b = r.not_before in
    let here : place ≤ℤ x = (from x).1 a in
    by_lt_z place x
    (λ l. let before : edge <ℤ low_end (x -ℤ pos 1) side = (from (x -ℤ pos 1)).0 (omega (arith, ints)) in absurd (omega (arith, ints)))
    (λ l. omega (arith, ints))

-- what is said of numbers as they were read and given back, is said of the numbers
pub as_read : (P : ℤ → ℤ → Type 0) (edge low result same other : ℤ) → low ≡ edge → same ≡ low → other ≡ result → ((x : ℤ) → P same x → x ≡ result) → (x : ℤ) → P edge x → x ≡ other
as_read P edge low result same other is low_is result_is f x h = f x (subst (λ e. P e x) (sym (low_is ∙ is)) h) ∙ sym result_is

-- ---- a place more

module _ (axis : Axis) (zone : Rect) where
  pub gains_inside : (place same : ℤ) (old new : List ℤ) → same ≡ place → low_along axis zone <ℤ place → place <ℤ high_along axis zone → new ≡ old ++ same ∷ [] → GainsPlace axis zone place old new
  gains_inside place same old new is above below e = subst (GainsPlace axis zone place old) (sym (e ∙ ap (λ p. old ++ p ∷ []) is)) (record {
    inside = λ all. All-push (IsInsideAlong axis zone) old place all (record { above = above; below = below });
    kept = λ x h. Contains-append_left old (place ∷ []) x h;
    gained = λ i. Contains-push old place;
  })

  pub gains_outside : (place : ℤ) (old : List ℤ) → (IsInsideAlong axis zone place → ⊥) → GainsPlace axis zone place old old
  gains_outside place old out = record { inside = λ all. all; kept = λ x h. h; gained = λ i. absurd (out i) }

  -- ---- the four places of a box

  module _ (side : ℕ) (one : HalfBox) (p q r s : ℤ) (old a b c new : List ℤ)
      (low_reaching : (x : ℤ) → Reaches (span_along axis one).low side x → x ≡ p) (low_passing : (x : ℤ) → Passes (span_along axis one).low side x → x ≡ q)
      (high_reaching : (x : ℤ) → Reaches (span_along axis one).high side x → x ≡ r) (high_passing : (x : ℤ) → Passes (span_along axis one).high side x → x ≡ s)
      (first : GainsPlace axis zone p old a) (second : GainsPlace axis zone q a b) (third : GainsPlace axis zone r b c) (fourth : GainsPlace axis zone s c new) where
    inside_at : (x y : ℤ) → ChangesAt axis zone side one x → x ≡ y → IsInsideAlong axis zone y
    inside_at x y change e = subst (IsInsideAlong axis zone) e (record { above = change.behind_first; below = change.before_end })

    gained_by : (x : ℤ) → ChangesAt axis zone side one x → IsChange (span_along axis one).low side x ⊎ IsChange (span_along axis one).high side x → Contains new x
    gained_by x change (inl (inl h)) =
        let e = low_reaching x h in
        subst (Contains new) (sym e) (fourth.kept p (third.kept p (second.kept p (first.gained (inside_at x p change e)))))
    gained_by x change (inl (inr h)) = let e = low_passing x h in subst (Contains new) (sym e) (fourth.kept q (third.kept q (second.gained (inside_at x q change e))))
    gained_by x change (inr (inl h)) = let e = high_reaching x h in subst (Contains new) (sym e) (fourth.kept r (third.gained (inside_at x r change e)))
    gained_by x change (inr (inr h)) = let e = high_passing x h in subst (Contains new) (sym e) (fourth.gained (inside_at x s change e))

    pub gains_changes : GainsChanges axis zone side (one ∷ []) old new
    gains_changes = record {
      inside = λ all. fourth.inside (third.inside (second.inside (first.inside all)));
      kept = λ x h. fourth.kept x (third.kept x (second.kept x (first.kept x h)));
      gained = λ other x among change. let e = Contains-one one other among in
          let here = subst (λ o. ChangesAt axis zone side o x) (sym e) change in gained_by x here here.change;
    }

-- ---- box by box, and list by list

module _ (axis : Axis) (zone : Rect) (side : ℕ) where
  pub gains_none : (old : List ℤ) → GainsChanges axis zone side [] old old
  gains_none old = record { inside = λ all. all; kept = λ x h. h; gained = λ one x among. absurd (Contains-none among) }

  pub gains_more : (near : List HalfBox) (i : ℕ) (one : HalfBox) (old mid new : List ℤ) → i < length near → one ≡ get_or near i one → GainsChanges axis zone side (take i near) old mid
      → GainsChanges axis zone side (one ∷ []) mid new → GainsChanges axis zone side (take (i + 1) near) old new
  gains_more near i one old mid new small is before here = record {
    inside = λ all. here.inside (before.inside all);
    kept = λ x h. here.kept x (before.kept x h);
    gained = λ other x among change. elim (Contains-take_cases near i one other small among) [
      | inl h ↦ here.kept x (before.gained other x h change)
      | inr last ↦ here.gained one x (Contains-head one []) (subst (λ o. ChangesAt axis zone side o x) (sym (is ∙ last)) change)
    ];
  }

  pub gains_all : (near : List HalfBox) (i : ℕ) (old new : List ℤ) → length near ≤ i → GainsChanges axis zone side (take i near) old new → GainsChanges axis zone side near old new
  gains_all near i old new past all = subst (λ ns. GainsChanges axis zone side ns old new) (take_all i near past) all

  pub no_changes : AreChanges axis zone side [] []
  no_changes = record { inside = All-nil (IsInsideAlong axis zone); complete = λ seen one x among. absurd (Contains-none among) }

  pub changes_more : (looked : List Looked) (i : ℕ) (seen : Looked) (old new : List ℤ) → i < length looked → seen ≡ get_or looked i seen → AreChanges axis zone side (take i looked) old
      → GainsChanges axis zone side seen.near old new → AreChanges axis zone side (take (i + 1) looked) new
  changes_more looked i seen old new small is before here = record {
    inside = here.inside before.inside;
    complete = λ other one x among at change. elim (Contains-take_cases looked i seen other small among) [
      | inl h ↦ here.kept x (before.complete other one x h at change)
      | inr last ↦ here.gained one x (subst (λ (l : Looked). Contains l.near one) (sym (is ∙ last)) at) change
    ];
  }

  pub changes_all : (looked : List Looked) (i : ℕ) (old new : List ℤ) → length looked ≤ i → IsPermutation old new → AreChanges axis zone side (take i looked) old
      → AreChanges axis zone side looked new
  changes_all looked i old new past same all =
      let whole = subst (λ ls. AreChanges axis zone side ls old) (take_all i looked past) all in record {
        inside = All-permutation (IsInsideAlong axis zone) old new same whole.inside;
        complete = λ seen one x among at change. Contains-permutation old new x same (whole.complete seen one x among at change);
      }

-- ---- the middle one

-- a zone's sides are those of a rectangle, along each axis
sides_along : (axis : Axis) (zone : Rect) → IsInterval FARTHEST_GROWN (low_along axis zone) (high_along axis zone)
sides_along X zone = zone.across
sides_along Y zone = zone.up

-- a number that was read at the middle of changes in rising order
pub middle_change : (axis : Axis) (zone : Rect) (side : ℕ) (looked : List Looked) (places : List ℤ) (i : ℕ) (place : ℤ)
    → AreChanges axis zone side looked places → IsSorted int_cmp places → i ≡ length places / 2 → 0 < length places → place ≡ get_or places i place
    → IsMiddleChange axis zone side looked (to_z w32 (of_z w32 place))
middle_change axis zone side looked places i place changes rising half some is =
    let small : i < length places = omega arith in
    let inside : IsInsideAlong axis zone place = subst (IsInsideAlong axis zone) (sym is) (changes.inside i place small) in
    let sides = sides_along axis zone in
    let least = sides.least in let most = sides.most in let above = inside.above in let below = inside.below in
    let same : to_z w32 (of_z w32 place) ≡ place = omega (arith, ints) in
    let here = slice_get_read places (length places) i place refl small is in
    let at : slice_get places (length places / 2) ≡ Some place = subst (λ k. slice_get places k ≡ Some place) half here in
    subst (IsMiddleChange axis zone side looked) (sym same) (record { inside = inside; places = places; changes = changes; rising = rising; middle = at })
