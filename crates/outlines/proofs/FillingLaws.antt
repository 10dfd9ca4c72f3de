-- runs that begin and end, and what is filled below a row
use Rattle.std.proofs.Common.{ℕ, ◌+◌, ◌<◌, ◌≤◌, ◌≡◌, ◌≢◌, inl, inr, refl, sym, ap, subst, ◌∙◌, List, [], ◌∷◌, ◌++◌, append_assoc}
use Rattle.std.proofs.Common.{reverse, length, get_or, arith, Bool, true, false, cond, ℤ, pos, ◌+ℤ◌, ◌≤ℤ◌, ◌<ℤ◌, ◌&&◌, int_le, int_lt, All, AllPairs, count_by}
use Rattle.lists.proofs.Words.{and_right, ints, by_lt_z, cases_lt, All-push, get_or_default, sum_by_push}
use Rattle.std.specs.List.{AllWithin, insert, remove}
use Rattle.std.proofs.lemmas.List.{get_or_at, get_or_append_left, length-append, length-reverse, reverse-append}
use Rattle.std.proofs.lemmas.List.Edits.{length-insert, length-remove}
use Rattle.std.proofs.lemmas.List.Sums.{get_or-le-sum_by, sum_by-insert, sum_by-remove}
use Rattle.geo_core.specs.Plane.{IsInLayout}
use Rattle.geo_core.specs.declared.bounds.TheConstants.{FARTHEST}
use Rattle.geo_core.specs.declared.plane.Cell.{Cell}
use Rattle.geo_core.specs.declared.plane.Rect.{Rect}
use Rattle.outlines.specs.inside.FillingDepths.{depth_at, has_cell, lies_in}
use Rattle.outlines.specs.inside.FillingRuns.{AddsRun, DropsRun, EndsLeft, EndsRight, Finishes, HasRoom, IsFree, IsGrowingTo}
use Rattle.outlines.specs.inside.FillingRuns.{IsParted, IsTaken, KeepsBelow, MovesRuns, PutsRun, TakesRun, has_below, runs_at, runs_of}
use Rattle.outlines.specs.declared.filling.Filling.{Filling}
use Rattle.outlines.specs.declared.run.Run.{Run}
use Rattle.outlines.proofs.CountLaws.{le_false, le_true, lt_false, lt_true, some_passes}
use Rattle.outlines.proofs.EditLaws.{above_inserted, above_removed, all_inserted, all_removed, below_inserted, below_removed, pairs_before, pairs_behind, pairs_inserted, pairs_removed}

-- ---- between two numbers

abbrev pub one : Bool → ℕ
one b = cond b 1 0

pub lies_in_none : (low high x : ℤ) → high ≤ℤ low → lies_in low high x ≡ false
lies_in_none low high x h = by_lt_z x low
    (λ l. rw (le_false low x l) refl)
    (λ l. and_right (int_le low x) (int_lt x high) (lt_false x high (omega (arith, ints))))

pub lies_in_parts : (low middle high x : ℤ) → low ≤ℤ middle → middle ≤ℤ high → one (lies_in low high x) ≡ one (lies_in low middle x) + one (lies_in middle high x)
lies_in_parts low middle high x h k = by_lt_z x low
    (λ l. rw (le_false low x l, le_false middle x (omega (arith, ints))) refl)
    (λ l. by_lt_z x middle
    (λ m. rw (le_true low x l, lt_true x high (omega (arith, ints)), lt_true x middle m, le_false middle x m) refl)
    (λ m. rw (le_true low x l, lt_false x middle m, le_true middle x m) (omega arith)))

pub lies_in_tells : (low high x : ℤ) → lies_in low high x ≡ true → (low ≤ℤ x) × (x <ℤ high)
lies_in_tells low high x e = (grind (arith, ints), grind (arith, ints))

none_of : (a b : Bool) → b ≡ false → one (a && b) ≡ 0
none_of a b e = rw (and_right a b e) refl

-- what a run has of the rows above the one to which it grew: nothing
nothing_above : (c : Cell) (row : ℤ) (run : Run) → row ≤ℤ c.j → one (has_below c row run) ≡ 0
nothing_above c row run h = none_of (lies_in run.low run.high c.i) (lies_in run.from row c.j) (and_right (int_le run.from c.j) (int_lt c.j row) (lt_false c.j row h))

nothing_yet : (c : Cell) (row : ℤ) (run : Run) → row ≤ℤ run.from → one (has_below c row run) ≡ 0
nothing_yet c row run h = none_of (lies_in run.low run.high c.i) (lies_in run.from row c.j) (lies_in_none run.from row c.j h)

-- ---- runs on the left and on the right

module _ {X : Type 0} where
  turned_round : (right : List X) (x : X) → reverse (right ++ x ∷ []) ≡ x ∷ reverse right
  turned_round right x = reverse-append right (x ∷ [])

  removed_there : (left : List X) (x : X) (rest : List X) → remove (left ++ x ∷ rest) (length left) ≡ left ++ rest
  removed_there [] x rest = refl
  removed_there (l ∷ left) x rest = ap (λ z. l ∷ z) (removed_there left x rest)

  inserted_there : (left : List X) (y : X) (rest : List X) → insert (left ++ rest) (length left) y ≡ left ++ y ∷ rest
  inserted_there [] y rest = refl
  inserted_there (l ∷ left) y rest = ap (λ z. l ∷ z) (inserted_there left y rest)

  -- the last one on the right is the first of them
  pub first_right : (left right rest : List X) (x d : X) → right ≡ rest ++ x ∷ [] → get_or (left ++ reverse right) (length left) d ≡ x
  first_right left right rest x d e = ap (λ r. get_or (left ++ r) (length left) d) (ap reverse e ∙ turned_round rest x) ∙ get_or_at left x (reverse rest) d (length left) refl

  pub taken_right : (left right rest : List X) (x : X) → right ≡ rest ++ x ∷ [] → left ++ reverse rest ≡ remove (left ++ reverse right) (length left)
  taken_right left right rest x e = sym (ap (λ r. remove (left ++ r) (length left)) (ap reverse e ∙ turned_round rest x) ∙ removed_there left x (reverse rest))

  pub put_on_left : (left right : List X) (x : X) → (left ++ x ∷ []) ++ reverse right ≡ insert (left ++ reverse right) (length left) x
  put_on_left left right x = append_assoc left (x ∷ []) (reverse right) ∙ sym (inserted_there left x (reverse right))

  pub put_on_right : (left right : List X) (x : X) → left ++ reverse (right ++ x ∷ []) ≡ insert (left ++ reverse right) (length left) x
  put_on_right left right x = ap (λ r. left ++ r) (turned_round right x) ∙ sym (inserted_there left x (reverse right))

  pub moved_left : (left right rest : List X) (x : X) → right ≡ rest ++ x ∷ [] → (left ++ x ∷ []) ++ reverse rest ≡ left ++ reverse right
  moved_left left right rest x e = append_assoc left (x ∷ []) (reverse rest) ∙ ap (λ r. left ++ r) (sym (ap reverse e ∙ turned_round rest x))

-- ---- a run becomes a rectangle

pub finished : (run : Run) (row : ℤ) (before : List Rect) (rect : Rect) → rect.x0 ≡ run.low → rect.y0 ≡ run.from → rect.x1 ≡ run.high → rect.y1 ≡ row → run.from <ℤ row → row ≤ℤ FARTHEST
    → Finishes run row before (before ++ rect ∷ [])
finished run row before rect a b e f some top = record {
  cells = λ c.
      let t : has_cell c rect ≡ has_below c row run = cc in
      sum_by_push (λ r. cond (has_cell c r) 1 0) before rect ∙ ap (λ t. depth_at c before + cond t 1 0) t;
  within = λ all. All-push IsInLayout before rect all (record {
    across = rw (a, e) run.columns;
    up = rw (b, f) (let least = run.bottom in record { some = some; least = least; most = top });
  });
}

pub not_begun : (run : Run) (row : ℤ) (before : List Rect) → row ≤ℤ run.from → Finishes run row before before
not_begun run row before h = record {
  cells = λ c. let none = nothing_yet c row run h in omega (arith, none);
  within = λ all. all;
}

-- ---- a run is taken out

module _ (number : ℕ) (run : Run) (row : ℤ) (before after : Filling) (takes : TakesRun number run row before after) where
  small : number < length (runs_of before)
  small = takes.number_within

  pub columns_dropped : (i : ℤ) → runs_at i (runs_of before) ≡ runs_at i (runs_of after) + one (lies_in run.low run.high i)
  columns_dropped i =
      let test = λ (r : Run). one (lies_in r.low r.high i) in
      let left = sum_by-remove test (runs_of before) number run takes.number_within in
      rw (takes.rest) (sym left ∙ ap (λ r. runs_at i (remove (runs_of before) number) + test r) (takes.item run))

  pub taken_kept : IsGrowingTo row before → KeepsBelow row before after
  taken_kept growing = record {
    cells = λ c.
        let test = λ (r : Run). one (has_below c row r) in
        let left : count_by (has_below c row) (remove (runs_of before) number) + test run ≡ count_by (has_below c row) (runs_of before) =
        ap (λ r. count_by (has_below c row) (remove (runs_of before) number) + test r) (sym (takes.item run)) ∙ sum_by-remove test (runs_of before) number run takes.number_within in
        let same : count_by (has_below c row) (runs_of after) ≡ count_by (has_below c row) (remove (runs_of before) number) = ap (count_by (has_below c row)) takes.rest in
        omega (arith, left, same, takes.done.cells c);
    growing = record {
      apart = rw (takes.rest) (pairs_removed (runs_of before) number takes.number_within (λ a b. a.high <ℤ b.low) growing.apart);
      begun = rw (takes.rest) (all_removed (runs_of before) number takes.number_within (λ r. r.from ≤ℤ row) growing.begun);
      below = λ c h. let none = nothing_above c row run h in let was = growing.below c h in omega (arith, takes.done.cells c, none, was);
      within = takes.done.within growing.within;
    };
  }

  pub shorter : length (runs_of after) + 1 ≡ length (runs_of before)
  shorter = rw (takes.rest) (length-remove (runs_of before) number takes.number_within)

  -- those before it end on its left, and those behind it begin on its right
  pub taken_left : (x : ℤ) → AllWithin (λ r. r.high <ℤ x) (runs_of before) 0 number → AllWithin (λ r. r.high <ℤ x) (runs_of after) 0 number
  taken_left x h = rw (takes.rest) (below_removed (runs_of before) number takes.number_within (λ r. r.high <ℤ x) h)

  pub ends_before : IsGrowingTo row before → AllWithin (λ r. r.high <ℤ run.low) (runs_of after) 0 number
  ends_before growing =
      taken_left run.low (pairs_before (λ a b. a.high <ℤ b.low) (runs_of before) number run takes.number_within (takes.item run) growing.apart)

  pub begins_behind : IsGrowingTo row before → AllWithin (λ r. run.high <ℤ r.low) (runs_of after) number (length (runs_of after))
  begins_behind growing =
      rw (takes.rest) (above_removed (runs_of before) number takes.number_within (λ r. run.high <ℤ r.low)
      (pairs_behind (λ a b. a.high <ℤ b.low) (runs_of before) number run takes.number_within (takes.item run) growing.apart))

-- the first run on the right is taken
pub taken_from : (run : Run) (row : ℤ) (before after : Filling) → before.right.items ≡ after.right.items ++ run ∷ [] → after.left.items ≡ before.left.items
    → Finishes run row before.done.items after.done.items → TakesRun (length before.left.items) run row before after
taken_from run row before after e same done =
    let all = length-append before.left.items (reverse before.right.items) in
    let turned = length-reverse before.right.items in
    let longer = ap length e ∙ length-append after.right.items (run ∷ []) in
    record {
      number_within = omega arith;
      item = λ d. first_right before.left.items before.right.items after.right.items run d e;
      rest = ap (λ l. l ++ reverse after.right.items) same ∙ taken_right before.left.items before.right.items after.right.items run e;
      done = done;
    }

pub left_within : (filling : Filling) → length filling.left.items ≤ length (runs_of filling)
left_within filling = let all = length-append filling.left.items (reverse filling.right.items) in omega arith

pub some_right_of : (filling : Filling) → length filling.left.items < length (runs_of filling) → 0 < length filling.right.items
some_right_of filling less = let all = length-append filling.left.items (reverse filling.right.items) in let turned = length-reverse filling.right.items in omega arith

-- what holds of each from a number on, told of all
pub within_weaker : {X : Type 0} (P Q : X → Type 0) → ((x : X) → P x → Q x) → (xs : List X) (low high : ℕ) → AllWithin P xs low high → AllWithin Q xs low high
within_weaker P Q tells xs low high h k d from before = tells (get_or xs k d) (h k d from before)

-- ---- the runs that end or begin at a column

pub left_ended : (number : ℕ) (column : ℤ) (run : Run) (row : ℤ) (before after : Filling) → IsGrowingTo row before → TakesRun number run row before after → run.high ≡ column
    → EndsLeft number column run.low row before after
left_ended number column run row before after growing takes meets = record {
  columns = λ i. columns_dropped number run row before after takes i ∙ ap (λ x. runs_at i (runs_of after) + one (lies_in run.low x i)) meets;
  kept = taken_kept number run row before after takes growing;
  bound = λ h. let s = shorter number run row before after takes in let small = takes.number_within in omega arith;
  left = λ h. ends_before number run row before after takes growing;
  right = λ h. within_weaker (λ r. run.high <ℤ r.low) (λ r. column <ℤ r.high) (λ r k. let some = r.columns.some in omega (arith, ints)) (runs_of after) number (length (runs_of after))
      (begins_behind number run row before after takes growing);
  least = λ h. run.columns.least;
  most = let some = run.columns.some in omega (arith, ints);
}

-- the same runs, in their places or in others
moved_kept : (row : ℤ) (before after : Filling) → MovesRuns before after → IsGrowingTo row before → KeepsBelow row before after
moved_kept row before after moves growing = record {
  cells = λ c. let done = ap (depth_at c) moves.done in let runs = ap (count_by (has_below c row)) moves.runs in omega (arith, done, runs);
  growing = record {
    apart = rw moves.runs growing.apart;
    begun = rw moves.runs growing.begun;
    below = rw moves.done growing.below;
    within = rw moves.done growing.within;
  };
}

pub not_moved : (filling : Filling) → MovesRuns filling filling
not_moved filling = record { runs = refl; done = refl }

none_there : (n : ℕ) (column i : ℤ) → n ≡ n + one (lies_in column column i)
none_there n column i = let none : one (lies_in column column i) ≡ 0 = rw (lies_in_none column column i (omega (arith, ints))) refl in omega (arith, none)

-- all runs from a number on pass the column, where the first of them does not end there
passes_column : (runs : List Run) (number : ℕ) (column : ℤ) → AllPairs (λ a b. a.high <ℤ b.low) runs → ((d : Run) → number < length runs → (get_or runs number d).high ≢ column)
    → AllWithin (λ r. column ≤ℤ r.high) runs number (length runs) → AllWithin (λ r. column <ℤ r.high) runs number (length runs)
passes_column runs number column apart other h k d from small =
    let at = h k d from small in
    elim (cases_lt number k) [
      | inl less ↦
          let first = h number d (omega arith) (omega arith) in
          let next = apart number k d less small in
          let some = (get_or runs k d).columns.some in
          omega (arith, ints)
      | inr same ↦
          let e : number ≡ k = omega arith in
          let differ = subst (λ n. (get_or runs n d).high ≢ column) e (other d (omega arith)) in
          by_lt_z column (get_or runs k d).high (λ l. l) (λ l. absurd (differ (omega (arith, ints))))
    ]

pub left_passed : (number : ℕ) (column row : ℤ) (before after : Filling) → MovesRuns before after → IsGrowingTo row before
    → ((d : Run) → number < length (runs_of before) → (get_or (runs_of before) number d).high ≢ column) → EndsLeft number column column row before after
left_passed number column row before after moves growing other = record {
  columns = λ i. none_there (runs_at i (runs_of before)) column i ∙ ap (λ rs. runs_at i rs + one (lies_in column column i)) (sym moves.runs);
  kept = moved_kept row before after moves growing;
  bound = λ h. rw moves.runs h;
  left = λ h. rw moves.runs h;
  right = λ h. rw moves.runs (passes_column (runs_of before) number column growing.apart other h);
  least = λ h. h;
  most = omega (arith, ints);
}

pub right_ended : (number : ℕ) (column : ℤ) (run : Run) (row : ℤ) (before after : Filling) → IsGrowingTo row before → TakesRun number run row before after → run.low ≡ column
    → EndsRight number column run.high row before after
right_ended number column run row before after growing takes meets = record {
  columns = λ i. columns_dropped number run row before after takes i ∙ ap (λ x. runs_at i (runs_of after) + one (lies_in x run.high i)) meets;
  kept = taken_kept number run row before after takes growing;
  bound = λ h. let s = shorter number run row before after takes in let small = takes.number_within in omega arith;
  left = taken_left number run row before after takes;
  right = λ h. begins_behind number run row before after takes growing;
  least = let some = run.columns.some in omega (arith, ints);
  most = λ h. run.columns.most;
}

-- the same on the other side
begins_past : (runs : List Run) (number : ℕ) (column : ℤ) → AllPairs (λ a b. a.high <ℤ b.low) runs → ((d : Run) → number < length runs → (get_or runs number d).low ≢ column)
    → AllWithin (λ r. column ≤ℤ r.low) runs number (length runs) → AllWithin (λ r. column <ℤ r.low) runs number (length runs)
begins_past runs number column apart other h k d from small =
    let at = h k d from small in
    elim (cases_lt number k) [
      | inl less ↦
          let first = h number d (omega arith) (omega arith) in
          let next = apart number k d less small in
          let some = (get_or runs number d).columns.some in
          omega (arith, ints)
      | inr same ↦
          let e : number ≡ k = omega arith in
          let differ = subst (λ n. (get_or runs n d).low ≢ column) e (other d (omega arith)) in
          by_lt_z column (get_or runs k d).low (λ l. l) (λ l. absurd (differ (omega (arith, ints))))
    ]

pub right_passed : (number : ℕ) (column row : ℤ) (before after : Filling) → MovesRuns before after → IsGrowingTo row before
    → ((d : Run) → number < length (runs_of before) → (get_or (runs_of before) number d).low ≢ column) → EndsRight number column column row before after
right_passed number column row before after moves growing other = record {
  columns = λ i. none_there (runs_at i (runs_of before)) column i ∙ ap (λ rs. runs_at i rs + one (lies_in column column i)) (sym moves.runs);
  kept = moved_kept row before after moves growing;
  bound = λ h. rw moves.runs h;
  left = λ x h. rw moves.runs h;
  right = λ h. rw moves.runs (begins_past (runs_of before) number column growing.apart other h);
  least = omega (arith, ints);
  most = λ h. h;
}

-- ---- a run is put in

pub run_put : (number : ℕ) (low high row : ℤ) (run : Run) (before after : Filling) → run.low ≡ low → run.high ≡ high → run.from ≡ row → HasRoom number low high (runs_of before) → low <ℤ high
    → IsGrowingTo row before → after.done.items ≡ before.done.items → (runs_of after) ≡ insert (runs_of before) number run → PutsRun number low high row before after
run_put number low high row run before after a b f has some growing done put = record {
  columns = λ i. rw put (sum_by-insert (λ r. one (lies_in r.low r.high i)) (runs_of before) number run ∙ ap (λ t. runs_at i (runs_of before) + one t) (rw (a, b) refl));
  kept = record {
    cells = λ c.
        let sum : count_by (has_below c row) (runs_of after) ≡ count_by (has_below c row) (runs_of before) + one (has_below c row run) =
        ap (count_by (has_below c row)) put ∙ sum_by-insert (λ r. one (has_below c row r)) (runs_of before) number run in
        let none = nothing_yet c row run (rw f (omega (arith, ints))) in
        let same = ap (depth_at c) done in
        omega (arith, sum, none, same);
    growing = record {
      apart = rw put (pairs_inserted (runs_of before) number has.bound run (λ x y. x.high <ℤ y.low) (rw a has.left) (rw b has.right) growing.apart);
      begun = rw put (all_inserted (runs_of before) number has.bound run (λ r. r.from ≤ℤ row) (rw f (omega (arith, ints))) growing.begun);
      below = rw done growing.below;
      within = rw done growing.within;
    };
  };
  room = λ x y less h. record {
    bound = rw put (let longer = length-insert (runs_of before) number run h.bound in let bound = h.bound in omega arith);
    left = rw put (below_inserted (runs_of before) number h.bound run (λ r. r.high <ℤ x) h.left);
    right = rw put (above_inserted (runs_of before) number h.bound run (λ r. y <ℤ r.low) (rw a less) h.right);
  };
}

pub none_put : (number : ℕ) (low high row : ℤ) (filling : Filling) → high ≤ℤ low → IsGrowingTo row filling → PutsRun number low high row filling filling
none_put number low high row filling none growing = record {
  columns = λ i. let e : one (lies_in low high i) ≡ 0 = rw (lies_in_none low high i none) refl in omega (arith, e);
  kept = moved_kept row filling filling (not_moved filling) growing;
  room = λ x y less h. h;
}

-- ---- which runs stand on the left

-- all on the left end before a column where the last of them does
pub all_ended : (left rest behind : List Run) (run : Run) (column : ℤ) → left ≡ rest ++ run ∷ [] → AllPairs (λ a b. a.high <ℤ b.low) (left ++ behind) → run.high <ℤ column
    → All (λ r. r.high <ℤ column) (rest ++ run ∷ [])
all_ended left rest behind run column e apart ends =
    All-push (λ r. r.high <ℤ column) rest run (λ k d small.
    let whole : left ++ behind ≡ rest ++ run ∷ behind = ap (λ l. l ++ behind) e ∙ append_assoc rest (run ∷ []) behind in
    let longer = length-append rest (run ∷ behind) in
    let pair = subst (AllPairs (λ a b. a.high <ℤ b.low)) whole apart k (length rest) d small (omega arith) in
    let next = subst (λ (r : Run). (get_or (rest ++ run ∷ behind) k d).high <ℤ r.low) (get_or_at rest run behind d (length rest) refl) pair in
    let here = subst (λ (r : Run). r.high <ℤ run.low) (get_or_append_left rest (run ∷ behind) d k small) next in
    let some = run.columns.some in
    omega (arith, ints)) ends

-- none on the right ends before a column where the first of them does not
pub parted_at : (column : ℤ) (filling : Filling) → AllPairs (λ a b. a.high <ℤ b.low) (runs_of filling) → All (λ r. r.high <ℤ column) filling.left.items
    → ((d : Run) → length filling.left.items < length (runs_of filling) → column ≤ℤ (get_or (runs_of filling) (length filling.left.items) d).high) → IsParted column filling
parted_at column filling apart ended first = record {
  left = λ k d low small. subst (λ (r : Run). r.high <ℤ column) (sym (get_or_append_left filling.left.items (reverse filling.right.items) d k small)) (ended k d small);
  right = λ k d from small.
      let head = first d (omega arith) in
      elim (cases_lt (length filling.left.items) k) [
        | inl less ↦
            let next = apart (length filling.left.items) k d less small in
            let some = (get_or (runs_of filling) k d).columns.some in
            omega (arith, ints)
        | inr same ↦ let e : length filling.left.items ≡ k = omega arith in subst (λ n. column ≤ℤ (get_or (runs_of filling) n d).high) e head
      ];
}

-- ---- columns begin to be inside

-- a run counts at its columns
counted_there : (runs : List Run) (k : ℕ) (d : Run) (i : ℤ) → k < length runs → (get_or runs k d).low ≤ℤ i → i <ℤ (get_or runs k d).high → 0 < runs_at i runs
counted_there runs k d i small low high =
    let there : one (lies_in (get_or runs k d).low (get_or runs k d).high i) ≡ 1 = rw (le_true (get_or runs k d).low i low, lt_true i (get_or runs k d).high high) refl in
    omega (arith, get_or-le-sum_by (λ r. one (lies_in r.low r.high i)) runs k d small, there)

-- runs that end on the right of where free columns begin, begin where those end or on the right
pub free_right : (low high : ℤ) (runs : List Run) (number : ℕ) → low <ℤ high → IsFree low high runs → AllWithin (λ r. low <ℤ r.high) runs number (length runs)
    → AllWithin (λ r. high ≤ℤ r.low) runs number (length runs)
free_right low high runs number some free h k d from small =
    let r = get_or runs k d in
    let ends = h k d from small in
    by_lt_z r.low high
    (λ less. by_lt_z r.low low
    (λ l. absurd (omega (arith, counted_there runs k d low small (omega (arith, ints)) ends, free.none low (omega (arith, ints)) some)))
    (λ l. absurd (let w = r.columns.some in omega (arith, counted_there runs k d r.low small (omega (arith, ints)) w, free.none r.low l less))))
    (λ past. past)

pub free_still : (low high column left row : ℤ) (number : ℕ) (before after : Filling) → EndsLeft number column left row before after → IsFree low high (runs_of before)
    → IsFree low high (runs_of after)
free_still low high column left row number before after ends free = record { none = λ i l h. let none = free.none i l h in omega (arith, ends.columns i, none) }

module _ (number : ℕ) (low high left right row : ℤ) (f0 f1 f2 f3 : Filling) (some : low <ℤ high) where
  pub room_to_fill : EndsLeft number low left row f0 f1 → EndsRight number high right row f1 f2 → IsFree low high (runs_of f0)
      → AllWithin (λ r. r.high <ℤ low) (runs_of f0) 0 number → AllWithin (λ r. low ≤ℤ r.high) (runs_of f0) number (length (runs_of f0)) → number ≤ length (runs_of f0)
      → HasRoom number left right (runs_of f2)
  room_to_fill on_left on_right free ends reaches bound = record {
    bound = on_right.bound (on_left.bound bound);
    left = on_right.left left (on_left.left ends);
    right = on_right.right (free_right low high (runs_of f1) number some (free_still low high low left row number f0 f1 on_left free) (on_left.right reaches));
  }

  pub run_added : EndsLeft number low left row f0 f1 → EndsRight number high right row f1 f2 → PutsRun number left right row f2 f3 → AddsRun low high row f0 f3
  run_added on_left on_right puts = record {
    columns = λ i.
        let a = on_left.most in let b = on_right.least in
        let first = lies_in_parts left low right i a (omega (arith, ints)) in
        let second = lies_in_parts low high right i (omega (arith, ints)) b in
        omega (arith, on_left.columns i, on_right.columns i, puts.columns i, first, second);
    kept = record {
      cells = λ c. puts.kept.cells c ∙ on_right.kept.cells c ∙ on_left.kept.cells c;
      growing = puts.kept.growing;
    };
  }

-- ---- columns are no longer inside

-- the run that has a column
holder : (runs : List Run) (i : ℤ) → 0 < runs_at i runs → (k : ℕ) × (r : Run) × (k < length runs) × (get_or runs k r ≡ r) × (r.low ≤ℤ i) × (i <ℤ r.high)
holder runs i some =
    let found = some_passes (λ (r : Run). lies_in r.low r.high i) runs some in
    let tells = lies_in_tells found.0.low found.0.high i found.2 in
    (found.1.0, found.0, found.1.1, found.1.2, tells.0, tells.1)

-- Taken columns lie in one run: in the first that ends on the right of where they begin.
pub record IsHolder (number : ℕ) (low high : ℤ) (runs : List Run) : Type 0 where
  pub small : number < length runs
  pub begins : (d : Run) → (get_or runs number d).low ≤ℤ low
  pub ends : (d : Run) → high ≤ℤ (get_or runs number d).high

module _ (number : ℕ) (low high : ℤ) (runs : List Run) (some : low <ℤ high) (taken : IsTaken low high runs) (apart : AllPairs (λ a b. a.high <ℤ b.low) runs)
    (left : AllWithin (λ r. r.high ≤ℤ low) runs 0 number) (right : AllWithin (λ r. low <ℤ r.high) runs number (length runs)) where
  -- a run that has a taken column is no earlier one
  no_earlier : (i : ℤ) (k : ℕ) (r : Run) → low ≤ℤ i → k < length runs → get_or runs k r ≡ r → i <ℤ r.high → number ≤ k
  no_earlier i k r from small is ends = elim (cases_lt k number) [
    | inl less ↦ absurd (let h = subst (λ (x : Run). x.high ≤ℤ low) is (left k r (omega arith) less) in omega (arith, ints))
    | inr more ↦ more
  ]

  -- nor a later one, where the one of this number reaches the column
  no_later : (i : ℤ) (k : ℕ) (r : Run) → k < length runs → get_or runs k r ≡ r → r.low ≤ℤ i → i ≤ℤ (get_or runs number r).high → number < k → ⊥
  no_later i k r small is begins reaches less =
      let h = subst (λ (x : Run). (get_or runs number r).high <ℤ x.low) is (apart number k r less small) in
      omega (arith, ints)

  pub holder_found : IsHolder number low high runs
  holder_found =
      let (k, r, small, is, begins, ends) = holder runs low (taken.some low (omega (arith, ints)) some) in
      let from = no_earlier low k r (omega (arith, ints)) small is ends in
      let reaches = right number r (omega arith) (omega arith) in
      let same : k ≡ number = elim (cases_lt number k) [
        | inl less ↦ absurd (no_later low k r small is begins (omega (arith, ints)) less)
        | inr more ↦ omega arith
      ] in
      let here : get_or runs number r ≡ r = subst (λ n. get_or runs n r ≡ r) same is in
      let within : number < length runs = omega arith in
      record {
        small = within;
        begins = λ d. subst (λ (x : Run). x.low ≤ℤ low) (sym here ∙ get_or_default runs number r d within) begins;
        ends = λ d. subst (λ (x : Run). high ≤ℤ x.high) (sym here ∙ get_or_default runs number r d within)
            (by_lt_z r.high high (λ short. absurd (past r here within begins ends short)) (λ far. far));
      } where
        past : (r : Run) → get_or runs number r ≡ r → number < length runs → r.low ≤ℤ low → low <ℤ r.high → r.high <ℤ high → ⊥
        past r here within begins ends short =
            let (k, s, small, is, from, before) = holder runs r.high (taken.some r.high (omega (arith, ints)) short) in
            let more = no_earlier r.high k s (omega (arith, ints)) small is before in
            let at : get_or runs number s ≡ r = get_or_default runs number s r within ∙ here in
            elim (cases_lt number k) [
              | inl less ↦ no_later r.high k s small is from (rw at (omega (arith, ints))) less
              | inr same ↦
                  let e : k ≡ number = omega arith in
                  let t : s ≡ r = sym is ∙ subst (λ n. get_or runs n s ≡ r) (sym e) at in
                  let f = subst (λ (x : Run). r.high <ℤ x.high) t before in
                  omega (arith, ints)
            ]

pub holder_right : (low high x : ℤ) (filling : Filling) → low <ℤ high → IsTaken low high (runs_of filling) → AllPairs (λ a b. a.high <ℤ b.low) (runs_of filling) → IsParted x filling
    → x ≡ low +ℤ pos 1 → IsHolder (length filling.left.items) low high (runs_of filling)
holder_right low high x filling some taken apart parted e =
    holder_found (length filling.left.items) low high (runs_of filling) some taken apart
    (within_weaker (λ r. r.high <ℤ x) (λ r. r.high ≤ℤ low) (λ r h. omega (arith, ints)) (runs_of filling) 0 (length filling.left.items) parted.left)
    (within_weaker (λ r. x ≤ℤ r.high) (λ r. low <ℤ r.high) (λ r h. omega (arith, ints)) (runs_of filling) (length filling.left.items) (length (runs_of filling)) parted.right)

module _ (number : ℕ) (low high row : ℤ) (run : Run) (f0 f1 f2 f3 : Filling) (takes : TakesRun number run row f0 f1) (growing : IsGrowingTo row f0) (some : low <ℤ high)
    (holds : IsHolder number low high (runs_of f0)) where
  begins : run.low ≤ℤ low
  begins = subst (λ (r : Run). r.low ≤ℤ low) (takes.item run) (holds.begins run)

  ends : high ≤ℤ run.high
  ends = subst (λ (r : Run). high ≤ℤ r.high) (takes.item run) (holds.ends run)

  room_between : (x y : ℤ) → run.low ≤ℤ x → y ≤ℤ run.high → HasRoom number x y (runs_of f1)
  room_between x y from to = record {
    bound = let s = shorter number run row f0 f1 takes in let small = takes.number_within in omega arith;
    left = within_weaker (λ r. r.high <ℤ run.low) (λ r. r.high <ℤ x) (λ r h. omega (arith, ints)) (runs_of f1) 0 number (ends_before number run row f0 f1 takes growing);
    right = within_weaker (λ r. run.high <ℤ r.low) (λ r. y <ℤ r.low) (λ r h. omega (arith, ints)) (runs_of f1) number (length (runs_of f1)) (begins_behind number run row f0 f1 takes growing);
  }

  pub room_behind : HasRoom number high run.high (runs_of f1)
  room_behind = room_between high run.high (let b = begins in omega (arith, ints)) (omega (arith, ints))

  pub room_before : PutsRun number high run.high row f1 f2 → HasRoom number run.low low (runs_of f2)
  room_before puts = puts.room run.low low some (room_between run.low low (omega (arith, ints)) (let e = ends in omega (arith, ints)))

  pub run_dropped : PutsRun number high run.high row f1 f2 → PutsRun number run.low low row f2 f3 → DropsRun low high row f0 f3
  run_dropped behind before = record {
    columns = λ i.
        let first = lies_in_parts run.low low run.high i begins (let e = ends in omega (arith, ints)) in
        let second = lies_in_parts low high run.high i (omega (arith, ints)) ends in
        omega (arith, columns_dropped number run row f0 f1 takes i, behind.columns i, before.columns i, first, second);
    kept = record {
      cells = λ c. before.kept.cells c ∙ behind.kept.cells c ∙ (taken_kept number run row f0 f1 takes growing).cells c;
      growing = before.kept.growing;
    };
  }

-- ---- runs are moved first

module _ (low high row : ℤ) (before moved after : Filling) (moves : MovesRuns before moved) (growing : IsGrowingTo row before) where
  pub grows_moved : IsGrowingTo row moved
  grows_moved = (moved_kept row before moved moves growing).growing

  kept_from : KeepsBelow row moved after → KeepsBelow row before after
  kept_from kept = record { cells = λ c. kept.cells c ∙ (moved_kept row before moved moves growing).cells c; growing = kept.growing }

  pub adds_from : AddsRun low high row moved after → AddsRun low high row before after
  adds_from adds = record { columns = λ i. adds.columns i ∙ ap (λ rs. runs_at i rs + one (lies_in low high i)) moves.runs; kept = kept_from adds.kept }

  pub drops_from : DropsRun low high row moved after → DropsRun low high row before after
  drops_from drops = record { columns = λ i. sym (ap (runs_at i) moves.runs) ∙ drops.columns i; kept = kept_from drops.kept }
