-- the steps of the search in a strip of columns
use Rattle.std.proofs.Common.{ℕ, ◌≡◌, sym, subst, List, length, arith, inl, inr, ◌⊎◌, Bool, true, ℤ, Contains, filter, ◌≤ℤ◌, ◌<ℤ◌}
use Rattle.lists.proofs.Words.{ints, by_lt_z, AllPairs-filter}
use Rattle.geo_core.specs.Plane.{IsIn}
use Rattle.touch_sweep.specs.inside.Entries.{IsByRow}
use Rattle.touch_sweep.specs.inside.Strips.{begins_in, crosses, meets_partly}
use Rattle.touch_sweep.specs.inside.Matches.{IsMatchOf, IsMatchFrom, Gains}
use Rattle.touch_sweep.specs.declared.numbered.Numbered.{Numbered}
use Rattle.geo_core.proofs.RectLaws.{Touch-sym}
use Rattle.touch_sweep.proofs.GainLaws.{gains_nothing, gains_both, gains_less}
use Rattle.touch_sweep.proofs.TouchLaws.{touch_begins}
use Rattle.lists.proofs.Filtering.{Contains-filter, Contains-from_filter}

pub IsByRow-filter : (p : Numbered → Bool) (entries chosen : List Numbered) → chosen ≡ filter p entries → IsByRow entries → IsByRow chosen
IsByRow-filter p entries chosen e by_row = subst IsByRow (sym e) (AllPairs-filter (λ a b. a.rect.y0 ≤ℤ b.rect.y0) p entries by_row)

begins : (low high : ℤ) (e : Numbered) → IsIn low high e.rect.x0 → begins_in low high e ≡ true
begins low high e h = let f = h.from in let g = h.before in grind (arith, ints)

-- an entry that begins before the columns end, and ends no earlier than they begin, crosses them or meets them in part
met : (low high : ℤ) (e : Numbered) → e.rect.x0 <ℤ high → low ≤ℤ e.rect.x1 → (crosses low high e ≡ true) ⊎ (meets_partly low high e ≡ true)
met low high e f g = by_lt_z low e.rect.x0
    (λ h. inr (grind (arith, ints)))
    (λ h. by_lt_z e.rect.x1 high (λ k. inr (grind (arith, ints))) (λ k. inl (grind (arith, ints))))

-- matches of fewer entries
pub of_more : {points spans some_points some_spans : List Numbered} → ((e : Numbered) → Contains some_points e → Contains points e) → ((e : Numbered) → Contains some_spans e → Contains spans e)
    → (p : ℕ × ℕ) → IsMatchOf some_points some_spans p → IsMatchOf points spans p
of_more f g p m = record { point = m.point; among = f m.point m.among; match = record { other = m.match.other; among = g m.match.other m.match.among; match = m.match.match } }

module _ (low high : ℤ) (points spans inner partly : List Numbered) (inner_is : inner ≡ filter (begins_in low high) points) (partly_is : partly ≡ filter (meets_partly low high) spans) where
  abbrev across : List Numbered
  across = filter (crosses low high) spans

  pub in_points : (e : Numbered) → Contains inner e → Contains points e
  in_points e c = Contains-from_filter (begins_in low high) points e (subst (λ ys. Contains ys e) inner_is c)

  pub across_in_spans : (e : Numbered) → Contains across e → Contains spans e
  across_in_spans e c = Contains-from_filter (crosses low high) spans e c

  pub partly_in_spans : (e : Numbered) → Contains partly e → Contains spans e
  partly_in_spans e c = Contains-from_filter (meets_partly low high) spans e (subst (λ ys. Contains ys e) partly_is c)

  pub in_inner : (e : Numbered) → Contains points e → IsIn low high e.rect.x0 → Contains inner e
  in_inner e c h = subst (λ ys. Contains ys e) (sym inner_is) (Contains-filter (begins_in low high) points e c (begins low high e h))

  pub across_or_partly : (e : Numbered) → Contains spans e → e.rect.x0 <ℤ high → low ≤ℤ e.rect.x1 → Contains across e ⊎ Contains partly e
  across_or_partly e c f g = elim (met low high e f g) [
    | inl t ↦ inl (Contains-filter (crosses low high) spans e c t)
    | inr t ↦ inr (subst (λ ys. Contains ys e) (sym partly_is) (Contains-filter (meets_partly low high) spans e c t))
  ]

  pub split : (p : ℕ × ℕ) → IsMatchFrom low high points spans p → IsMatchOf inner across p ⊎ IsMatchFrom low high inner partly p
  split p m =
      let from = m.begins.from in let before = m.begins.before in let reached = m.reached in
      let ends = (touch_begins m.found.match.other.rect m.found.point.rect (Touch-sym _ _ m.found.match.match.touch)).0 in
      let point_in = in_inner m.found.point m.found.among m.begins in
      elim (across_or_partly m.found.match.other m.found.match.among (omega (arith, ints)) (omega (arith, ints))) [
        | inl c ↦ inl (record { point = m.found.point; among = point_in; match = record { other = m.found.match.other; among = c; match = m.found.match.match } })
        | inr c ↦ inr (record {
          found = record { point = m.found.point; among = point_in; match = record { other = m.found.match.other; among = c; match = m.found.match.match } };
          begins = m.begins;
          reached = m.reached;
        })
      ]

  -- where nothing begins there is nothing to find
  pub nothing_begins : (pairs : List (ℕ × ℕ)) → length inner ≡ 0 → Gains (IsMatchFrom low high points spans) (IsMatchOf points spans) pairs pairs
  nothing_begins pairs none = gains_nothing pairs (λ p m. absurd (let small = (in_inner m.found.point m.found.among m.begins).1 in omega arith))

  -- spans across all columns first, and then those that meet them in part
  pub in_two_steps : (old middle new : List (ℕ × ℕ)) → Gains (IsMatchOf inner across) (IsMatchOf inner across) old middle
      → Gains (IsMatchFrom low high inner partly) (IsMatchOf inner partly) middle new
      → Gains (IsMatchFrom low high points spans) (IsMatchOf points spans) old new
  in_two_steps old middle new g h = gains_both g h split (of_more in_points across_in_spans) (of_more in_points partly_in_spans)

-- a sweep finds more than it must
pub from_sweep : (low high : ℤ) (points spans : List Numbered) {old new : List (ℕ × ℕ)} → Gains (IsMatchOf points spans) (IsMatchOf points spans) old new
    → Gains (IsMatchFrom low high points spans) (IsMatchOf points spans) old new
from_sweep low high points spans g = gains_less g (λ p (m : IsMatchFrom low high points spans p). m.found) (λ p m. m)

-- what begins in some columns begins in those before a middle one, or in the others
pub in_a_half : (low high left_low left_high right_low right_high : ℤ) (points spans : List Numbered) → left_low ≡ low → left_high ≡ right_low → right_high ≡ high
    → (p : ℕ × ℕ) → IsMatchFrom low high points spans p → IsMatchFrom left_low left_high points spans p ⊎ IsMatchFrom right_low right_high points spans p
in_a_half low high left_low left_high right_low right_high points spans begins_is meets_is ends_is p m =
    let from = m.begins.from in let before = m.begins.before in
    by_lt_z m.found.point.rect.x0 right_low
    (λ l. inl (record { found = m.found; begins = record { from = omega (arith, ints); before = omega (arith, ints) }; reached = m.reached }))
    (λ l. inr (record { found = m.found; begins = record { from = l; before = omega (arith, ints) }; reached = m.reached }))

-- the columns before a middle one, and the others
pub from_halves : (low high left_low left_high right_low right_high : ℤ) (points spans : List Numbered) {old middle new : List (ℕ × ℕ)} → left_low ≡ low → left_high ≡ right_low → right_high ≡ high
    → Gains (IsMatchFrom left_low left_high points spans) (IsMatchOf points spans) old middle → Gains (IsMatchFrom right_low right_high points spans) (IsMatchOf points spans) middle new
    → Gains (IsMatchFrom low high points spans) (IsMatchOf points spans) old new
from_halves low high left_low left_high right_low right_high points spans begins_is meets_is ends_is g h =
    gains_both g h (in_a_half low high left_low left_high right_low right_high points spans begins_is meets_is ends_is) (λ p m. m) (λ p m. m)
