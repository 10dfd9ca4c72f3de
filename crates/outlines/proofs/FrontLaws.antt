-- the windings in a row and the runs that grow from it, piece by piece
use Rattle.std.proofs.Common.{ℕ, zero, suc, ◌+◌, ◌<◌, ◌≤◌, ◌≡◌, ◌≢◌, ◌↔◌, refl, sym, ap, subst, ◌∙◌, List, [], ◌∷◌}
use Rattle.std.proofs.Common.{length, get_or, arith, true, false, cond, ℤ, pos, ◌+ℤ◌, ◌≤ℤ◌, ◌<ℤ◌, int_le, int_lt, AllPairs, inl, inr}
use Rattle.lists.proofs.Words.{and_right, ints, by_lt_z, cases_lt, cases_Bool, sum_by-cons, get_or_default, get_or_from_slice_get}
use Rattle.lists.proofs.Containing.{some_item}
use Rattle.lists.proofs.Differing.{AllPairs-tail}
use Rattle.geo_core.specs.Plane.{IsInterval}
use Rattle.geo_core.specs.declared.bounds.TheConstants.{FARTHEST, FARTHEST_GROWN}
use Rattle.geo_core.specs.declared.plane.Cell.{Cell}
use Rattle.outlines.specs.inside.FillingDepths.{lies_in}
use Rattle.outlines.specs.inside.Fronts.{IsDrawn, ShiftsPiece, TurnsBetween}
use Rattle.outlines.specs.inside.Pieces.{AddsBetween, AddsToPiece, AreRising, HasSameWindings, IsPlace, winding_at}
use Rattle.outlines.specs.inside.FillingRuns.{AddsRun, DropsRun, IsFree, IsGrowingTo, IsTaken, filled_at, runs_at, runs_of}
use Rattle.outlines.specs.declared.front.Front.{Front}
use Rattle.outlines.specs.declared.piece.Piece.{Piece}
use Rattle.outlines.specs.declared.run.Run.{Run}
use Rattle.outlines.proofs.CountLaws.{count_none, le_false, le_true, lt_false, lt_true}
use Rattle.outlines.proofs.FillingLaws.{lies_in_none, lies_in_tells, one}
use Rattle.outlines.proofs.PieceLaws.{winding_between, winding_there}

-- ---- at most one run has a column

pub at_most_one : (i : ℤ) (runs : List Run) → AllPairs (λ a b. a.high <ℤ b.low) runs → runs_at i runs ≤ 1
at_most_one i [] apart = omega arith
at_most_one i (r ∷ runs) apart =
    let first = sum_by-cons (λ (s : Run). one (lies_in s.low s.high i)) r runs in
    elim (cases_Bool (lies_in r.low r.high i)) [
      | inl has ↦
          let others = count_none (λ (s : Run). lies_in s.low s.high i) runs (λ k d small.
          let next = apart zero (suc k) d (omega arith) (omega arith) in
          let within = lies_in_tells r.low r.high i has in
          let ends = within.1 in
          rw (le_false (get_or runs k d).low i (omega (arith, ints))) refl) in
          let here : one (lies_in r.low r.high i) ≡ 1 = rw has refl in
          omega (arith, first, others, here)
      | inr not ↦
          let none : one (lies_in r.low r.high i) ≡ 0 = rw not refl in
          omega (arith, first, none, at_most_one i runs (AllPairs-tail (λ a b. a.high <ℤ b.low) r runs apart))
    ]

-- ---- the columns of a piece

not_some : (n : ℕ) → (0 < n → ⊥) → n ≡ 0
not_some n h = omega (arith, h)

in_or_out : {P : Type 0} (low high i : ℤ) → (low ≤ℤ i → i <ℤ high → lies_in low high i ≡ true → P) → (lies_in low high i ≡ false → P) → P
in_or_out low high i within without = by_lt_z i low
    (λ l. without (rw (le_false low i l) refl))
    (λ l. by_lt_z i high
    (λ m. within l m (rw (le_true low i l, lt_true i high m) refl))
    (λ m. without (rw (le_true low i l, lt_false i high m) refl)))

pub columns_in_range : (pieces : List Piece) (number : ℕ) (p q : Piece) → AreRising pieces → number + 1 < length pieces → get_or pieces number p ≡ p → get_or pieces (number + 1) q ≡ q
    → IsInterval FARTHEST_GROWN p.column q.column
columns_in_range pieces number p q rising next is next_is =
    let less = subst (λ (x : Piece). x.column <ℤ (get_or pieces (number + 1) p).column) is (rising number (number + 1) p (omega arith) next) in
    let order : p.column <ℤ q.column = subst (λ (x : Piece). p.column <ℤ x.column) (get_or_default pieces (number + 1) p q next ∙ next_is) less in
    let left = p.left in let right = q.right in
    record { some = order; least = omega (arith, ints); most = omega (arith, ints) }

pub columns_in_layout : (pieces : List Piece) (number : ℕ) (p q : Piece) → AreRising pieces → number + 1 < length pieces → get_or pieces number p ≡ p → get_or pieces (number + 1) q ≡ q
    → IsInterval FARTHEST p.column q.column
columns_in_layout pieces number p q rising next is next_is =
    record { some = (columns_in_range pieces number p q rising next is next_is).some; least = p.left; most = q.right }

module _ (row by : ℤ) (number : ℕ) (before after : Front) (p q : Piece) (drawn : IsDrawn row before) (next : number + 1 < length before.pieces.items)
    (is : get_or before.pieces.items number p ≡ p) (next_is : get_or before.pieces.items (number + 1) q ≡ q) (turning : by ≢ pos 0)
    (adds : AddsToPiece number by before.pieces.items after.pieces.items) where
  here : IsPlace before.pieces.items number p.column
  here = record { within = omega arith; is = λ d. ap (λ (x : Piece). x.column) (get_or_default before.pieces.items number d p (omega arith) ∙ is) }

  there : IsPlace before.pieces.items (number + 1) q.column
  there = record { within = next; is = λ d. ap (λ (x : Piece). x.column) (get_or_default before.pieces.items (number + 1) d q next ∙ next_is) }

  winding_was : (i : ℤ) → p.column ≤ℤ i → i <ℤ q.column → winding_at i before.pieces.items ≡ p.winding
  winding_was i from less = winding_between before.pieces.items number p i (omega arith) is from (λ k d low small.
      let first = there.is d in
      elim (cases_lt (number + 1) k) [
        | inl l ↦ let h = drawn.rising (number + 1) k d l small in omega (arith, ints)
        | inr l ↦ let e : number + 1 ≡ k = omega arith in let f = subst (λ m. (get_or before.pieces.items m d).column ≡ q.column) e first in omega (arith, ints)
      ])

  more : AddsBetween p.column q.column by before.pieces.items after.pieces.items
  more = adds.more p.column q.column here there

  winding_within : (i : ℤ) → p.column ≤ℤ i → i <ℤ q.column → lies_in p.column q.column i ≡ true → winding_at i after.pieces.items ≡ p.winding +ℤ by
  winding_within i from less e = more.more i ∙ rw (e, winding_was i from less) refl

  winding_without : (i : ℤ) → lies_in p.column q.column i ≡ false → winding_at i after.pieces.items ≡ winding_at i before.pieces.items
  winding_without i e = more.more i ∙ rw e (zero_more (winding_at i before.pieces.items)) where
    zero_more : (z : ℤ) → z +ℤ pos 0 ≡ z
    zero_more z = omega (arith, ints)

  -- none of the columns is inside where the outline does not wind round them, and each is where it does
  pub free_columns : p.winding ≡ pos 0 → IsFree p.column q.column (runs_of before.filling)
  free_columns none = record {
    none = λ i from less. not_some (runs_at i (runs_of before.filling)) (λ some. (drawn.inside i).0 some (winding_was i from less ∙ none));
  }

  pub taken_columns : p.winding ≢ pos 0 → IsTaken p.column q.column (runs_of before.filling)
  taken_columns some = record { some = λ i from less. (drawn.inside i).1 (λ none. some (sym (winding_was i from less) ∙ none)) }

  shifted : ((i : ℤ) → (0 < runs_at i (runs_of after.filling)) ↔ (winding_at i after.pieces.items ≢ pos 0)) → IsGrowingTo row after.filling
      → ((c : Cell) → filled_at c row after.filling ≡ filled_at c row before.filling) → ShiftsPiece number by row before after
  shifted inside growing cells = record { more = adds.more; places = adds.places; drawn = record { rising = adds.rising; inside = inside; growing = growing }; cells = cells }

  -- out of the columns nothing changes
  outside : (i : ℤ) → lies_in p.column q.column i ≡ false → runs_at i (runs_of after.filling) ≡ runs_at i (runs_of before.filling)
      → (0 < runs_at i (runs_of after.filling)) ↔ (winding_at i after.pieces.items ≢ pos 0)
  outside i e same =
      let was = drawn.inside i in
      let w = winding_without i e in
      (λ some none. was.0 (rw (← same) some) (sym w ∙ none), λ winds. rw same (was.1 (λ none. winds (w ∙ none))))

  pub shifted_in : p.winding ≡ pos 0 → AddsRun p.column q.column row before.filling after.filling → ShiftsPiece number by row before after
  shifted_in none adds_run = shifted inside adds_run.kept.growing adds_run.kept.cells where
    inside : (i : ℤ) → (0 < runs_at i (runs_of after.filling)) ↔ (winding_at i after.pieces.items ≢ pos 0)
    inside i = in_or_out p.column q.column i
        (λ from less e.
        let w = winding_within i from less e in
        let one_more : one (lies_in p.column q.column i) ≡ 1 = rw e refl in
        (λ some zero. turning (omega (arith, ints)), λ winds. omega (arith, adds_run.columns i, one_more)))
        (λ e. let none_more : one (lies_in p.column q.column i) ≡ 0 = rw e refl in outside i e (omega (arith, adds_run.columns i, none_more)))

  pub shifted_out : p.winding ≢ pos 0 → p.winding +ℤ by ≡ pos 0 → DropsRun p.column q.column row before.filling after.filling → ShiftsPiece number by row before after
  shifted_out some none drops = shifted inside drops.kept.growing drops.kept.cells where
    inside : (i : ℤ) → (0 < runs_at i (runs_of after.filling)) ↔ (winding_at i after.pieces.items ≢ pos 0)
    inside i = in_or_out p.column q.column i
        (λ from less e.
        let w = winding_within i from less e ∙ none in
        let one_less : one (lies_in p.column q.column i) ≡ 1 = rw e refl in
        let most = at_most_one i (runs_of before.filling) drawn.growing.apart in
        (λ left. absurd (omega (arith, drops.columns i, one_less)), λ winds. absurd (winds w)))
        (λ e. let none_less : one (lies_in p.column q.column i) ≡ 0 = rw e refl in outside i e (omega (arith, drops.columns i, none_less)))

  pub shifted_still : p.winding ≢ pos 0 → p.winding +ℤ by ≢ pos 0 → after.filling ≡ before.filling → ShiftsPiece number by row before after
  shifted_still some still same = shifted inside (rw same drawn.growing) (λ c. ap (filled_at c row) same) where
    kept : (i : ℤ) → runs_at i (runs_of after.filling) ≡ runs_at i (runs_of before.filling)
    kept i = ap (λ f. runs_at i (runs_of f)) same

    inside : (i : ℤ) → (0 < runs_at i (runs_of after.filling)) ↔ (winding_at i after.pieces.items ≢ pos 0)
    inside i = in_or_out p.column q.column i
        (λ from less e.
        let w = winding_within i from less e in
        (λ left zero. still (sym w ∙ zero), λ winds. rw (kept i) ((drawn.inside i).1 (λ zero. some (sym (winding_was i from less) ∙ zero)))))
        (λ e. outside i e (kept i))

-- ---- from piece to piece

-- other pieces of the same windings
pub redrawn : (row : ℤ) (before after : Front) → after.filling ≡ before.filling → HasSameWindings before.pieces.items after.pieces.items → IsDrawn row before → IsDrawn row after
redrawn row before after same pieces drawn = record {
  rising = pieces.rising;
  inside = λ i.
      let runs : runs_at i (runs_of after.filling) ≡ runs_at i (runs_of before.filling) = ap (λ f. runs_at i (runs_of f)) same in
      let winding = pieces.same i in
      (λ some none. (drawn.inside i).0 (rw (← runs) some) (sym winding ∙ none), λ winds. rw runs ((drawn.inside i).1 (λ none. winds (winding ∙ none))));
  growing = rw same drawn.growing;
}

-- the pieces from the first on to before this one are turned
pub record IsTurnedTo (low high by row : ℤ) (first last number : ℕ) (before front : Front) : Type 0 where
  pub begins : IsPlace front.pieces.items first low
  pub ends : IsPlace front.pieces.items last high
  pub so_far : (x : ℤ) → IsPlace front.pieces.items number x → AddsBetween low x by before.pieces.items front.pieces.items
  pub drawn : IsDrawn row front
  pub cells : (c : Cell) → filled_at c row front.filling ≡ filled_at c row before.filling
  pub bound : number ≤ last
  pub from : first ≤ number

same_column : (pieces : List Piece) (n : ℕ) (x y : ℤ) → IsPlace pieces n x → IsPlace pieces n y → (d : Piece) → x ≡ y
same_column pieces n x y h k d = sym (h.is d) ∙ k.is d

pub place_of_item : (pieces : List Piece) (n : ℕ) (p : Piece) → n < length pieces → get_or pieces n p ≡ p → IsPlace pieces n p.column
place_of_item pieces n p small is = record { within = small; is = λ d. ap (λ (x : Piece). x.column) (get_or_default pieces n d p small ∙ is) }

-- what stands at a number
pub item_at : (pieces : List Piece) (n : ℕ) → n < length pieces → (p : Piece) × (get_or pieces n p ≡ p)
item_at pieces n small = let found = some_item pieces n small in (found.0, get_or_from_slice_get pieces n found.0 found.0 found.1)

pub turned_begun : (low high by row : ℤ) (first last : ℕ) (front : Front) → IsPlace front.pieces.items first low → IsPlace front.pieces.items last high → first ≤ last → IsDrawn row front
    → IsTurnedTo low high by row first last first front front
turned_begun low high by row first last front begins ends le drawn = record {
  begins = begins;
  ends = ends;
  so_far = λ x place. record {
    more = λ i.
        let e : x ≡ low = let p = item_at front.pieces.items first place.within in same_column front.pieces.items first x low place begins p.0 in
        rw (lies_in_none low x i (let f = e in omega (arith, ints))) (zero_more (winding_at i front.pieces.items));
  };
  drawn = drawn;
  cells = λ c. refl;
  bound = le;
  from = omega arith;
} where
  zero_more : (z : ℤ) → z ≡ z +ℤ pos 0
  zero_more z = omega (arith, ints)

-- what is added up to a column, and from it on
adds_on : (low middle high by : ℤ) (one two three : List Piece) → low ≤ℤ middle → middle ≤ℤ high → AddsBetween low middle by one two → AddsBetween middle high by two three
    → AddsBetween low high by one three
adds_on low middle high by one two three h k first second = record {
  more = λ i. second.more i ∙ ap (λ z. z +ℤ cond (lies_in middle high i) by (pos 0)) (first.more i) ∙ by_lt_z i low
      (λ l. rw (le_false low i l, le_false middle i (omega (arith, ints))) (two_zeros (winding_at i one)))
      (λ l. by_lt_z i middle
      (λ m. rw (le_true low i l, lt_true i middle m, lt_true i high (omega (arith, ints)), le_false middle i m) (last_zero (winding_at i one +ℤ by)))
      (λ m. rw (le_true low i l, lt_false i middle m, le_true middle i m) (first_zero (winding_at i one) (cond (int_lt i high) by (pos 0)))));
} where
  two_zeros : (z : ℤ) → z +ℤ pos 0 +ℤ pos 0 ≡ z +ℤ pos 0
  two_zeros z = omega (arith, ints)

  last_zero : (z : ℤ) → z +ℤ pos 0 ≡ z
  last_zero z = omega (arith, ints)

  first_zero : (z w : ℤ) → z +ℤ pos 0 +ℤ w ≡ z +ℤ w
  first_zero z w = omega (arith, ints)

-- a piece of a later number begins further to the right
pub no_further : (pieces : List Piece) (m n : ℕ) (x y : ℤ) → AreRising pieces → IsPlace pieces m x → IsPlace pieces n y → m ≤ n → x ≤ℤ y
no_further pieces m n x y rising h k le =
    let p = item_at pieces m h.within in
    let e = h.is p.0 in let f = k.is p.0 in
    elim (cases_lt m n) [
      | inl less ↦ let r = rising m n p.0 less k.within in omega (arith, ints)
      | inr same ↦ let s : n ≡ m = omega arith in let g = subst (λ j. (get_or pieces j p.0).column ≡ y) s f in omega (arith, ints)
    ]

pub earlier : (pieces : List Piece) (m n : ℕ) (x y : ℤ) → AreRising pieces → IsPlace pieces m x → IsPlace pieces n y → x <ℤ y → m ≤ n
earlier pieces m n x y rising h k less = elim (cases_lt n m) [
  | inl back ↦ absurd (let l = no_further pieces n m y x rising k h (omega arith) in omega (arith, ints))
  | inr le ↦ le
]

module _ (low high by row : ℤ) (first last number : ℕ) (before front : Front) (so_far : IsTurnedTo low high by row first last number before front) (less : number < last) where
  pub next_within : number + 1 < length front.pieces.items
  next_within = let within = so_far.ends.within in omega arith

  -- as yet the winding of the next piece is what it was
  pub still_there : (p : Piece) → get_or front.pieces.items number p ≡ p → (low ≤ℤ p.column) × (p.winding ≡ winding_at p.column before.pieces.items)
  still_there p is =
      let within : number < length front.pieces.items = let w = next_within in omega arith in
      let place = place_of_item front.pieces.items number p within is in
      let same = winding_there front.pieces.items number p within is so_far.drawn.rising in
      let more = (so_far.so_far p.column place).more p.column in
      let none = lies_in_none' low p.column in (
        no_further front.pieces.items first number low p.column so_far.drawn.rising so_far.begins place so_far.from,
        sym same ∙ more
            ∙ rw none (zero_more (winding_at p.column before.pieces.items)),
      ) where
        lies_in_none' : (x y : ℤ) → lies_in x y y ≡ false
        lies_in_none' x y = and_right (int_le x y) (int_lt y y) (lt_false y y (omega (arith, ints)))

        zero_more : (z : ℤ) → z +ℤ pos 0 ≡ z
        zero_more z = omega (arith, ints)

  pub turned_more : (after : Front) → ShiftsPiece number by row front after → IsTurnedTo low high by row first last (number + 1) before after
  turned_more after shifts =
      let p = item_at front.pieces.items number (let w = next_within in omega arith) in
      let q = item_at front.pieces.items (number + 1) next_within in
      let here = place_of_item front.pieces.items number p.0 (let w = next_within in omega arith) p.1 in
      let there = place_of_item front.pieces.items (number + 1) q.0 next_within q.1 in
      let first_le = no_further front.pieces.items first number low p.0.column so_far.drawn.rising so_far.begins here so_far.from in
      let then_le = no_further front.pieces.items number (number + 1) p.0.column q.0.column so_far.drawn.rising here there (omega arith) in
      record {
        begins = shifts.places first low so_far.begins;
        ends = shifts.places last high so_far.ends;
        so_far = λ x place.
            let e : x ≡ q.0.column = same_column after.pieces.items (number + 1) x q.0.column place (shifts.places (number + 1) q.0.column there) q.0 in
            rw e (adds_on low p.0.column q.0.column by before.pieces.items front.pieces.items after.pieces.items first_le then_le
            (so_far.so_far p.0.column here) (shifts.more p.0.column q.0.column here there));
        drawn = shifts.drawn;
        cells = λ c. shifts.cells c ∙ so_far.cells c;
        bound = omega arith;
        from = let f = so_far.from in omega arith;
      }

-- ---- all of a turn

-- pieces begin at both ends, those between are turned, and what says nothing goes
pub all_turned : (low high by row : ℤ) (before cut turned after : Front) (first last : ℕ) → ((i : ℤ) → winding_at i cut.pieces.items ≡ winding_at i before.pieces.items)
    → cut.filling ≡ before.filling → IsTurnedTo low high by row first last last cut turned → ((i : ℤ) → winding_at i after.pieces.items ≡ winding_at i turned.pieces.items)
    → AreRising after.pieces.items
    → after.filling ≡ turned.filling → TurnsBetween low high by row before after
all_turned low high by row before cut turned after first last as_before filling turns as_turned rising same = record {
  more = record {
    more = λ i. as_turned i ∙ (turns.so_far high turns.ends).more i ∙ ap (λ z. z +ℤ cond (lies_in low high i) by (pos 0)) (as_before i);
  };
  drawn = redrawn row turned after same (record { same = as_turned; rising = rising }) turns.drawn;
  cells = λ c. ap (filled_at c row) same ∙ turns.cells c ∙ ap (filled_at c row) filling;
}
