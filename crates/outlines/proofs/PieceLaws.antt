-- pieces that begin and end, and the windings that they say
use Rattle.std.proofs.Common.{ℕ, suc, ◌+◌, ◌<◌, ◌≤◌, ◌≡◌, ◌≢◌, inl, inr, refl, sym, ap, subst, ◌∙◌, List, [], ◌∷◌, ◌++◌}
use Rattle.std.proofs.Common.{length, length-set, get_or, set, take, drop, map, fold, arith, true, false, cond, ℤ, pos, ◌+ℤ◌, ◌≤ℤ◌, ◌<ℤ◌, int_lt, All}
use Rattle.lists.proofs.Words.{ints, by_lt_z, cases_lt, All-head, All-tail, drop_more, take-append-drop, get_or-map, get_or_default}
use Rattle.std.specs.List.{AllWithin, insert, remove}
use Rattle.std.specs.List.Sorted.{IsPartitionedBy, IsPartitionPoint}
use Rattle.std.proofs.lemmas.List.{set_split}
use Rattle.std.proofs.lemmas.List.Edits.{length-insert, length-remove, get_or-insert_below, get_or-remove_below}
use Rattle.std.proofs.lemmas.List.Sums.{fold-append}
use Rattle.outlines.specs.inside.FillingDepths.{lies_in}
use Rattle.outlines.specs.inside.Pieces.{AddsToPiece, AreRising, HasSameWindings, IsPlace, KeepsPlacesLeftOf, StandsFor, winding_at, winding_behind}
use Rattle.outlines.specs.declared.piece.Piece.{Piece}
use Rattle.outlines.proofs.CountLaws.{le_false, le_true, lt_false, lt_true}
use Rattle.outlines.proofs.EditLaws.{all_before, all_from, keys_kept, pairs_before, pairs_behind, pairs_inserted, pairs_kept, pairs_removed}
use Rattle.outlines.proofs.FillingLaws.{within_weaker}

-- ---- windings

-- pieces on the right of a column do not tell there
none_right : (i winding : ℤ) (pieces : List Piece) → All (λ p. i <ℤ p.column) pieces → fold (winding_behind i) winding pieces ≡ winding
none_right i winding [] h = refl
none_right i winding (p ∷ pieces) h =
    rw (le_false p.column i (All-head (λ q. i <ℤ q.column) p pieces h)) (none_right i winding pieces (All-tail (λ q. i <ℤ q.column) p pieces h))

winding_parts : (i : ℤ) (front back : List Piece) → winding_at i (front ++ back) ≡ fold (winding_behind i) (winding_at i front) back
winding_parts i front back = fold-append (winding_behind i) (pos 0) front back

-- a piece tells at its column and on the right of it
told : (i winding : ℤ) (p : Piece) → p.column ≤ℤ i → winding_behind i winding p ≡ p.winding
told i winding p from = rw (le_true p.column i from) refl

-- a piece that says what the one before it says
no_step : (i : ℤ) (front : List Piece) (p : Piece) (back : List Piece) → (p.column ≤ℤ i → winding_at i front ≡ p.winding) → winding_at i (front ++ p ∷ back) ≡ winding_at i (front ++ back)
no_step i front p back h =
    let same : winding_behind i (winding_at i front) p ≡ winding_at i front =
    by_lt_z i p.column (λ less. rw (le_false p.column i less) refl) (λ more. rw (le_true p.column i more) (sym (h more))) in
    winding_parts i front (p ∷ back) ∙ ap (λ w. fold (winding_behind i) w back) same ∙ sym (winding_parts i front back)

split_at : (pieces : List Piece) (k : ℕ) (p : Piece) → k < length pieces → get_or pieces k p ≡ p → pieces ≡ take k pieces ++ p ∷ drop (k + 1) pieces
split_at pieces k p small is = sym (take-append-drop k pieces) ∙ ap (λ l. take k pieces ++ l) (drop_more pieces k p small ∙ ap (λ q. q ∷ drop (k + 1) pieces) is)

-- between its column and the next one the winding is that of the piece
pub winding_between : (pieces : List Piece) (k : ℕ) (p : Piece) (i : ℤ) → k < length pieces → get_or pieces k p ≡ p → p.column ≤ℤ i → AllWithin (λ q. i <ℤ q.column) pieces (k + 1) (length pieces)
    → winding_at i pieces ≡ p.winding
winding_between pieces k p i small is from right =
    ap (winding_at i) (split_at pieces k p small is)
    ∙ winding_parts i (take k pieces) (p ∷ drop (k + 1) pieces)
    ∙ ap (λ w. fold (winding_behind i) w (drop (k + 1) pieces)) (told i (winding_at i (take k pieces)) p from)
    ∙ none_right i p.winding (drop (k + 1) pieces) (all_from (λ q. i <ℤ q.column) (k + 1) pieces right)

pub winding_there : (pieces : List Piece) (k : ℕ) (p : Piece) → k < length pieces → get_or pieces k p ≡ p → AreRising pieces → winding_at p.column pieces ≡ p.winding
winding_there pieces k p small is rising =
    winding_between pieces k p p.column small is (omega (arith, ints)) (pairs_behind (λ a b. a.column <ℤ b.column) pieces k p small is rising)

-- ---- a piece is put in

pub parted_left : (pieces : List Piece) (column : ℤ) → AreRising pieces → IsPartitionedBy (λ (p : Piece). int_lt p.column column) pieces
parted_left pieces column rising i j d before small passes = elim (cases_lt i j) [
  | inl less ↦
      let next = rising i j d less small in
      let ends : (get_or pieces j d).column <ℤ column = grind (arith, ints) in
      lt_true (get_or pieces i d).column column (omega (arith, ints))
  | inr same ↦ let e : j ≡ i = omega arith in subst (λ n. int_lt (get_or pieces n d).column column ≡ true) e passes
]

-- the pieces from a number on lie on the right of a column, where the first of them does not begin there
pub begins_past : (pieces : List Piece) (number : ℕ) (column : ℤ) → AreRising pieces → ((d : Piece) → number < length pieces → (get_or pieces number d).column ≢ column)
    → AllWithin (λ p. column ≤ℤ p.column) pieces number (length pieces) → AllWithin (λ p. column <ℤ p.column) pieces number (length pieces)
begins_past pieces number column rising other h k d from small =
    let at = h k d from small in
    elim (cases_lt number k) [
      | inl less ↦
          let first = h number d (omega arith) (omega arith) in
          let next = rising number k d less small in
          omega (arith, ints)
      | inr same ↦
          let e : number ≡ k = omega arith in
          let differ = subst (λ n. (get_or pieces n d).column ≢ column) e (other d (omega arith)) in
          by_lt_z column (get_or pieces k d).column (λ l. l) (λ l. absurd (differ (omega (arith, ints))))
    ]

module _ (pieces : List Piece) (k : ℕ) (p : Piece) (bound : k ≤ length pieces) (left : AllWithin (λ q. q.column <ℤ p.column) pieces 0 k)
    (right : AllWithin (λ q. p.column <ℤ q.column) pieces k (length pieces)) where
  pub piece_put : StandsFor (take k pieces) p.winding → AreRising pieces → HasSameWindings pieces (insert pieces k p)
  piece_put stands rising = record {
    same = λ i.
        no_step i (take k pieces) p (drop k pieces)
        (λ h. stands.at i (all_before (λ q. q.column ≤ℤ i) k pieces (within_weaker (λ q. q.column <ℤ p.column) (λ q. q.column ≤ℤ i) (λ q l. omega (arith, ints)) pieces 0 k left)))
        ∙ ap (winding_at i) (take-append-drop k pieces);
    rising = pairs_inserted pieces k bound p (λ a b. a.column <ℤ b.column) left right rising;
  }

  pub places_put : KeepsPlacesLeftOf p.column pieces (insert pieces k p)
  places_put = record {
    kept = λ n x place less.
        let longer = length-insert pieces k p bound in
        let small = place.within in
        let front : n < k = elim (cases_lt n k) [
          | inl l ↦ l
          | inr l ↦ absurd (let h = right n p l small in let e = place.is p in omega (arith, ints))
        ] in
        record {
          within = omega arith;
          is = λ d. ap (λ (q : Piece). q.column) (get_or-insert_below pieces k p d n front bound) ∙ place.is d;
        };
  }

-- no piece begins at the column: those before the number lie on its left, the others on its right
pub record IsGap (pieces : List Piece) (number : ℕ) (column : ℤ) : Type 0 where
  pub bound : number ≤ length pieces
  pub left : AllWithin (λ p. p.column <ℤ column) pieces 0 number
  pub right : AllWithin (λ p. column <ℤ p.column) pieces number (length pieces)

pub gap_at : (pieces : List Piece) (number : ℕ) (column : ℤ) → AreRising pieces → number ≤ length pieces
    → IsPartitionPoint (λ (p : Piece). int_lt p.column column ≡ true) (λ p. int_lt p.column column ≡ false) pieces number → (IsPlace pieces number column → ⊥) → IsGap pieces number column
gap_at pieces number column rising bound point none = record {
  bound = bound;
  left = within_weaker (λ (p : Piece). int_lt p.column column ≡ true) (λ p. p.column <ℤ column) (λ p e. grind (arith, ints)) pieces 0 number point.0;
  right = begins_past pieces number column rising
      (λ d small e. none (record { within = small; is = λ d'. ap (λ (p : Piece). p.column) (get_or_default pieces number d' d small) ∙ e }))
      (within_weaker (λ (p : Piece). int_lt p.column column ≡ false) (λ p. column ≤ℤ p.column) (λ p e. grind (arith, ints)) pieces number (length pieces) point.1);
}

module _ (pieces : List Piece) (number : ℕ) (p : Piece) (gap : IsGap pieces number p.column) where
  pub cut_same : StandsFor (take number pieces) p.winding → AreRising pieces → HasSameWindings pieces (insert pieces number p)
  cut_same = piece_put pieces number p gap.bound gap.left gap.right

  pub cut_kept : (column : ℤ) → p.column ≡ column → KeepsPlacesLeftOf column pieces (insert pieces number p)
  cut_kept column at = subst (λ x. KeepsPlacesLeftOf x pieces (insert pieces number p)) at (places_put pieces number p gap.bound gap.left gap.right)

-- ---- a piece is taken out

module _ (pieces : List Piece) (k : ℕ) (p : Piece) (small : k < length pieces) (is : get_or pieces k p ≡ p) (rising : AreRising pieces) where
  front : AllWithin (λ q. q.column <ℤ p.column) pieces 0 k
  front = pairs_before (λ a b. a.column <ℤ b.column) pieces k p small is rising

  pub piece_removed : StandsFor (take k pieces) p.winding → HasSameWindings pieces (remove pieces k)
  piece_removed stands = record {
    same = λ i.
        let succ : k + 1 ≡ suc k = omega arith in
        let next : drop (k + 1) pieces ≡ drop (suc k) pieces = ap (λ n. drop n pieces) succ in
        sym (ap (winding_at i) (split_at pieces k p small is ∙ ap (λ l. take k pieces ++ p ∷ l) next)
        ∙ no_step i (take k pieces) p (drop (suc k) pieces)
        (λ h. stands.at i (all_before (λ q. q.column ≤ℤ i) k pieces (within_weaker (λ q. q.column <ℤ p.column) (λ q. q.column ≤ℤ i) (λ q l. omega (arith, ints)) pieces 0 k front))));
    rising = pairs_removed pieces k small (λ a b. a.column <ℤ b.column) rising;
  }

  pub places_removed : (column : ℤ) → IsPlace pieces k column → KeepsPlacesLeftOf column pieces (remove pieces k)
  places_removed column here = record {
    kept = λ n x place less.
        let shorter = length-remove pieces k small in
        let there = place.within in
        let at : p.column ≡ column = ap (λ (q : Piece). q.column) (sym is) ∙ here.is p in
        let before : n < k = elim (cases_lt n k) [
          | inl l ↦ l
          | inr l ↦ elim (cases_lt k n) [
            | inl m ↦ absurd (let h = rising k n p m there in let e = place.is p in let f = here.is p in omega (arith, ints))
            | inr m ↦
                let same : k ≡ n = omega arith in
                absurd (let e = subst (λ j. (get_or pieces j p).column ≡ column) same (here.is p) in let f = place.is p in omega (arith, ints))
          ]
        ] in
        record {
          within = omega arith;
          is = λ d. ap (λ (q : Piece). q.column) (get_or-remove_below pieces k d n before small) ∙ place.is d;
        };
  }

-- ---- the winding of a piece changes

step_more : (i : ℤ) (front : List Piece) (p p' : Piece) (back : List Piece) (high by : ℤ) → p'.column ≡ p.column → p'.winding ≡ p.winding +ℤ by
    → (high ≤ℤ i → (v w : ℤ) → fold (winding_behind i) v back ≡ fold (winding_behind i) w back) → (i <ℤ high → All (λ q. i <ℤ q.column) back)
    → winding_at i (front ++ p' ∷ back) ≡ winding_at i (front ++ p ∷ back) +ℤ cond (lies_in p.column high i) by (pos 0)
step_more i front p p' back high by column winding far near =
    winding_parts i front (p' ∷ back) ∙ told ∙ ap (λ z. z +ℤ cond (lies_in p.column high i) by (pos 0)) (sym (winding_parts i front (p ∷ back))) where
      zero_more : (z : ℤ) → z ≡ z +ℤ pos 0
      zero_more z = omega (arith, ints)

      told : fold (winding_behind i) (winding_behind i (winding_at i front) p') back ≡ fold (winding_behind i) (winding_behind i (winding_at i front) p) back
          +ℤ cond (lies_in p.column high i) by (pos 0)
      told = by_lt_z i p.column
          (λ less. rw (column, le_false p.column i less) (zero_more _))
          (λ from. by_lt_z i high
          (λ less. rw (column, le_true p.column i from, lt_true i high less, none_right i p'.winding back (near less), none_right i p.winding back (near less)) winding)
          (λ past. rw (column, le_true p.column i from, lt_false i high past) (far past p'.winding p.winding ∙ zero_more _)))

module _ (pieces : List Piece) (k : ℕ) (p p' : Piece) (by : ℤ) (small : k < length pieces) (is : get_or pieces k p ≡ p) (column : p'.column ≡ p.column) (winding : p'.winding ≡ p.winding +ℤ by)
    (rising : AreRising pieces) where
  keys : map (λ q. q.column) (set pieces k p') ≡ map (λ q. q.column) pieces
  keys = keys_kept (λ q. q.column) pieces k p p' small is column

  places : (n : ℕ) (x : ℤ) → IsPlace pieces n x → IsPlace (set pieces k p') n x
  places n x place =
      let same = length-set pieces k p' in
      let within = place.within in
      let there : n < length (set pieces k p') = omega arith in
      record {
        within = there;
        is = λ d.
            sym (get_or-map (λ q. q.column) (set pieces k p') n d d.column there)
            ∙ ap (λ l. get_or l n d.column) keys
            ∙ get_or-map (λ q. q.column) pieces n d d.column within
            ∙ place.is d;
      }

  -- what lies behind the next piece does not change
  behind : (high : ℤ) → IsPlace pieces (k + 1) high → (i : ℤ) → high ≤ℤ i → (v w : ℤ) → fold (winding_behind i) v (drop (k + 1) pieces) ≡ fold (winding_behind i) w (drop (k + 1) pieces)
  behind high next i far v w =
      let q = get_or pieces (k + 1) p in
      let parts = drop_more pieces (k + 1) p next.within in
      let from : q.column ≤ℤ i = let e = next.is p in omega (arith, ints) in
      rw parts (ap (λ w. fold (winding_behind i) w (drop (k + 1 + 1) pieces)) (told i v q from ∙ sym (told i w q from)))

  pub added_to : AddsToPiece k by pieces (set pieces k p')
  added_to = record {
    more = λ low high here next. record {
      more = λ i.
          let at : p.column ≡ low = ap (λ (q : Piece). q.column) (sym is) ∙ here.is p in
          let succ : suc k ≡ k + 1 = omega arith in
          let split : set pieces k p' ≡ take k pieces ++ p' ∷ drop (k + 1) pieces = set_split pieces k p' small ∙ ap (λ n. take k pieces ++ p' ∷ drop n pieces) succ in
          let right = λ (less : i <ℤ high). all_from (λ q. i <ℤ q.column) (k + 1) pieces (beyond high next i less) in
          let step = step_more i (take k pieces) p p' (drop (k + 1) pieces) high by column winding (behind high next i) right in
          ap (winding_at i) split ∙ step
          ∙ ap (λ l. winding_at i l +ℤ cond (lies_in p.column high i) by (pos 0)) (sym (split_at pieces k p small is))
          ∙ ap (λ x. winding_at i pieces +ℤ cond (lies_in x high i) by (pos 0)) at;
    };
    places = places;
    rising = pairs_kept (λ a b. a <ℤ b) (λ q. q.column) pieces (set pieces k p') keys rising;
  } where
    beyond : (high : ℤ) → IsPlace pieces (k + 1) high → (i : ℤ) → i <ℤ high → AllWithin (λ q. i <ℤ q.column) pieces (k + 1) (length pieces)
    beyond high next i less n d from within =
        let first = next.is d in
        elim (cases_lt (k + 1) n) [
          | inl l ↦ let h = rising (k + 1) n d l within in omega (arith, ints)
          | inr l ↦ let e : k + 1 ≡ n = omega arith in let f = subst (λ m. (get_or pieces m d).column ≡ high) e first in omega (arith, ints)
        ]
