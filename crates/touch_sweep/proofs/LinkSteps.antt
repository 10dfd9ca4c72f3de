-- the steps of the search for links in a strip of columns
use Rattle.std.proofs.Common.{ℕ, ◌≡◌, refl, subst, List, arith, inl, inr, ◌⊎◌, Bool, true, ℤ, pos, ◌+ℤ◌, ◌≤ℤ◌, All, Contains, filter}
use Rattle.lists.proofs.Words.{ints, All-contains, filter_passes}
use Rattle.geo_core.specs.Plane.{IsIn}
use Rattle.geo_core.proofs.RectLaws.{Touch-sym}
use Rattle.touch_sweep.specs.inside.Chains.{AreInRow, IsMatchAfter, Links}
use Rattle.touch_sweep.specs.inside.Matches.{IsMatchOf, IsMatchFrom, Gains}
use Rattle.touch_sweep.specs.inside.Strips.{begins_in, crosses, meets_partly}
use Rattle.touch_sweep.specs.declared.numbered.Numbered.{Numbered}
use Rattle.touch_sweep.proofs.LinkLaws.{links_all, links_both, links_less, links_then}
use Rattle.touch_sweep.proofs.SearchSteps.{across_or_partly, in_a_half, of_more, across_in_spans, in_points, partly_in_spans, split}
use Rattle.touch_sweep.proofs.TouchLaws.{touch_begins, touch_beside, touch_in_column}
use Rattle.lists.proofs.Containing.{all_of_each}
use Rattle.lists.proofs.Filtering.{Contains-from_filter}

-- what the filters say of an entry that they keep
passed : (test : Numbered → Bool) (all chosen : List Numbered) → chosen ≡ filter test all → (e : Numbered) → Contains chosen e → test e ≡ true
passed test all chosen is e c = All-contains (λ x. test x ≡ true) (filter test all) e (filter_passes test all) (subst (λ ys. Contains ys e) is c)

begins_within : (low high : ℤ) (e : Numbered) → begins_in low high e ≡ true → IsIn low high e.rect.x0
begins_within low high e passes = record { from = grind (arith, ints); before = grind (arith, ints) }

covers_all : (low high : ℤ) (e : Numbered) → crosses low high e ≡ true → (e.rect.x0 ≤ℤ low) × (high ≤ℤ e.rect.x1)
covers_all low high e passes = (grind (arith, ints), grind (arith, ints))

-- in columns of which there is one at most, one that is met in part ends where they begin
ends_there : (low high : ℤ) (e : Numbered) → high ≤ℤ (low +ℤ pos 1) → meets_partly low high e ≡ true → e.rect.x1 ≡ low
ends_there low high e narrow passes = grind (arith, ints)

-- rows tell which entries that begin in the columns touch those across them
across_in_row : (low high : ℤ) (points across : List Numbered) → ((e : Numbered) → Contains points e → IsIn low high e.rect.x0)
    → ((e : Numbered) → Contains across e → crosses low high e ≡ true) → AreInRow points across
across_in_row low high points across begin cross = record {
  gap = pos 0;
  small = omega (arith, ints);
  tell = λ p s c d. (
    λ touch. let up = (touch_begins p.rect s.rect touch).1 in let down = (touch_begins s.rect p.rect (Touch-sym p.rect s.rect touch)).1 in (omega (arith, ints), omega (arith, ints)),
    λ rows.
        let from = (begin p c).from in let before = (begin p c).before in
        let left = (covers_all low high s (cross s d)).0 in let right = (covers_all low high s (cross s d)).1 in
        let some = p.rect.across.some in
        let f = rows.0 in let g = rows.1 in
        touch_in_column p.rect s.rect p.rect.x0 (record { from = omega (arith, ints); before = some }) (record { from = omega (arith, ints); before = omega (arith, ints) })
        (omega (arith, ints)) (omega (arith, ints)),
  );
}

-- and which entries that begin in a column touch those that end before it
beside_in_row : (low high : ℤ) (points partly : List Numbered) → high ≤ℤ (low +ℤ pos 1) → ((e : Numbered) → Contains points e → IsIn low high e.rect.x0)
    → ((e : Numbered) → Contains partly e → meets_partly low high e ≡ true) → AreInRow points partly
beside_in_row low high points partly narrow begin part = record {
  gap = pos 1;
  small = omega (arith, ints);
  tell = λ p s c d.
      let from = (begin p c).from in let before = (begin p c).before in
      let ends = ends_there low high s narrow (part s d) in
      let both = touch_beside p.rect s.rect (omega (arith, ints)) in (
        λ touch. let f = (both.0 touch).0 in let g = (both.0 touch).1 in (omega (arith, ints), omega (arith, ints)),
        λ rows. let f = rows.0 in let g = rows.1 in both.1 (omega (arith, ints), omega (arith, ints)),
      );
}

module _ (low high : ℤ) (points spans inner partly : List Numbered) (inner_is : inner ≡ filter (begins_in low high) points) (partly_is : partly ≡ filter (meets_partly low high) spans) where
  pub inner_begin : All (λ e. IsIn low high e.rect.x0) inner
  inner_begin = all_of_each (λ e. IsIn low high e.rect.x0) inner (λ e c. begins_within low high e (passed (begins_in low high) points inner inner_is e c))

  pub inner_among : (from to : ℤ) → All (λ e. IsIn from to e.rect.x0) points → (e : Numbered) → Contains inner e → Contains points e × IsIn from to e.rect.x0
  inner_among from to within e c =
      let among = in_points low high points spans inner partly inner_is partly_is e c in
      (among, All-contains (λ e. IsIn from to e.rect.x0) points e within among)

  -- spans across all columns first, and then those that meet them in part
  pub link_two_steps : {old middle new : List (ℕ × ℕ)} → Links (IsMatchOf inner (filter (crosses low high) spans)) (IsMatchOf inner (filter (crosses low high) spans)) old middle
      → Links (IsMatchFrom low high inner partly) (IsMatchOf inner partly) middle new
      → Links (IsMatchFrom low high points spans) (IsMatchOf points spans) old new
  link_two_steps g h = links_both g h (split low high points spans inner partly inner_is partly_is)
      (of_more (in_points low high points spans inner partly inner_is partly_is) (across_in_spans low high points spans inner partly inner_is partly_is))
      (of_more (in_points low high points spans inner partly inner_is partly_is) (partly_in_spans low high points spans inner partly inner_is partly_is))

pub link_from_sweep : (low high : ℤ) (points spans : List Numbered) {old new : List (ℕ × ℕ)} → Gains (IsMatchOf points spans) (IsMatchOf points spans) old new
    → Links (IsMatchFrom low high points spans) (IsMatchOf points spans) old new
link_from_sweep low high points spans g = links_all g (λ p (m : IsMatchFrom low high points spans p). m.found) (λ p m. m)

pub link_from_column : (low high : ℤ) (points spans : List Numbered) {old new : List (ℕ × ℕ)} → Links (IsMatchAfter points spans) (IsMatchOf points spans) old new
    → Links (IsMatchFrom low high points spans) (IsMatchOf points spans) old new
link_from_column low high points spans g = links_less g (λ p (m : IsMatchFrom low high points spans p). record { found = m.found; reached = m.reached }) (λ p m. m)

-- first what reaches over all columns of each half, and then what is left in each
module _ (low high left_low left_high right_low right_high : ℤ) (begins_is : left_low ≡ low) (meets_is : left_high ≡ right_low) (ends_is : right_high ≡ high)
    (points spans left_points left_spans right_points right_spans : List Numbered)
    (left_points_are : left_points ≡ filter (begins_in left_low left_high) points) (left_spans_are : left_spans ≡ filter (meets_partly left_low left_high) spans)
    (right_points_are : right_points ≡ filter (begins_in right_low right_high) points) (right_spans_are : right_spans ≡ filter (meets_partly right_low right_high) spans) where
  of_left : (e : Numbered) → Contains left_points e → Contains points e
  of_left = in_points left_low left_high points spans left_points left_spans left_points_are left_spans_are

  of_right : (e : Numbered) → Contains right_points e → Contains points e
  of_right = in_points right_low right_high points spans right_points right_spans right_points_are right_spans_are

  pub link_from_halves : {old first second third new : List (ℕ × ℕ)}
      → Links (IsMatchOf left_points (filter (crosses left_low left_high) spans)) (IsMatchOf left_points (filter (crosses left_low left_high) spans)) old first
      → Links (IsMatchOf right_points (filter (crosses right_low right_high) spans)) (IsMatchOf right_points (filter (crosses right_low right_high) spans)) first second
      → Links (IsMatchFrom left_low left_high left_points left_spans) (IsMatchOf left_points left_spans) second third
      → Links (IsMatchFrom right_low right_high right_points right_spans) (IsMatchOf right_points right_spans) third new
      → Links (IsMatchFrom low high points spans) (IsMatchOf points spans) old new
  link_from_halves g h k l =
      let across = links_then {may = IsMatchOf points spans} g h
      (of_more of_left (Contains-from_filter (crosses left_low left_high) spans)) (of_more of_right (Contains-from_filter (crosses right_low right_high) spans)) in
      let before = links_then {may = IsMatchOf points spans} across k (λ p m. m) (of_more of_left left_partly) in
      links_less (links_then {may = IsMatchOf points spans} before l (λ p m. m) (of_more of_right right_partly))
      (λ p m. elim (in_a_half low high left_low left_high right_low right_high points spans begins_is meets_is ends_is p m) [
        | inl a ↦ elim (split left_low left_high points spans left_points left_spans left_points_are left_spans_are p a) [ inl b ↦ inl (inl (inl b)) | inr b ↦ inl (inr b) ]
        | inr a ↦ elim (split right_low right_high points spans right_points right_spans right_points_are right_spans_are p a) [ inl b ↦ inl (inl (inr b)) | inr b ↦ inr b ]
      ])
      (λ p m. m)
    where
      left_partly : (e : Numbered) → Contains left_spans e → Contains spans e
      left_partly = partly_in_spans left_low left_high points spans left_points left_spans left_points_are left_spans_are

      right_partly : (e : Numbered) → Contains right_spans e → Contains spans e
      right_partly = partly_in_spans right_low right_high points spans right_points right_spans right_points_are right_spans_are

-- ---- one column

pub column_begins : (points : List Numbered) (first : Numbered) (low high : ℤ) → low ≡ first.rect.x0 → high ≡ first.rect.x0 +ℤ pos 1 → All (λ e. e.rect.x0 ≡ first.rect.x0) points
    → All (λ e. IsIn low high e.rect.x0) points
column_begins points first low high begins ends column = all_of_each (λ e. IsIn low high e.rect.x0) points (λ e c.
    let at = All-contains (λ e. e.rect.x0 ≡ first.rect.x0) points e column c in
    record { from = omega (arith, ints); before = omega (arith, ints) })

module _ (low high : ℤ) (points spans partly : List Numbered) (within : All (λ e. IsIn low high e.rect.x0) points) (partly_is : partly ≡ filter (meets_partly low high) spans) where
  begin : (e : Numbered) → Contains points e → IsIn low high e.rect.x0
  begin e c = All-contains (λ e. IsIn low high e.rect.x0) points e within c

  pub column_across : (across : List Numbered) → across ≡ filter (crosses low high) spans → AreInRow points across
  column_across across across_is = across_in_row low high points across begin (passed (crosses low high) spans across across_is)

  pub column_beside : high ≤ℤ (low +ℤ pos 1) → AreInRow points partly
  column_beside narrow = beside_in_row low high points partly narrow begin (passed (meets_partly low high) spans partly partly_is)

  pub link_column_steps : {old middle new : List (ℕ × ℕ)} → Links (IsMatchOf points (filter (crosses low high) spans)) (IsMatchOf points (filter (crosses low high) spans)) old middle
      → Links (IsMatchOf points partly) (IsMatchOf points partly) middle new → Links (IsMatchAfter points spans) (IsMatchOf points spans) old new
  link_column_steps g h = links_both g h split_column (of_more (λ e c. c) (Contains-from_filter (crosses low high) spans)) (of_more (λ e c. c) from_partly) where
    from_partly : (e : Numbered) → Contains partly e → Contains spans e
    from_partly e c = Contains-from_filter (meets_partly low high) spans e (subst (λ ys. Contains ys e) partly_is c)

    split_column : (p : ℕ × ℕ) → IsMatchAfter points spans p → IsMatchOf points (filter (crosses low high) spans) p ⊎ IsMatchOf points partly p
    split_column p m =
        let reached = m.reached in
        let from = (begin m.found.point m.found.among).from in let before = (begin m.found.point m.found.among).before in
        let ends = (touch_begins m.found.match.other.rect m.found.point.rect (Touch-sym _ _ m.found.match.match.touch)).0 in
        elim (across_or_partly low high points spans (filter (begins_in low high) points) partly refl partly_is m.found.match.other m.found.match.among (omega (arith, ints)) (omega (arith, ints))) [
          | inl c ↦ inl (record { point = m.found.point; among = m.found.among; match = record { other = m.found.match.other; among = c; match = m.found.match.match } })
          | inr c ↦ inr (record { point = m.found.point; among = m.found.among; match = record { other = m.found.match.other; among = c; match = m.found.match.match } })
        ]
