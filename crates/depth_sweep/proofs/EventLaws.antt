-- what events still put and take, by the bars that begin and end above a row
use Rattle.std.proofs.Common.{ℕ, ◌+◌, ◌^◌, ◌<◌, ◌≤◌, ◌≡◌, refl, sym, ap, ◌∙◌, arith, inl, inr, List, [], ◌∷◌, length, take, drop, get_or, Bool, true, false, cond, ◌&&◌, ℤ, pos, ◌-ℤ◌, ◌≤ℤ◌, ◌<ℤ◌, int_lt, sum_by, All}
use Rattle.lists.proofs.Words.{ints, by_lt_z, cond_both, flat_map, length-drop, length-take-le, drop_all, sum_by-cons, sum_by-IsPermutation, get_or_default, get_or-take, cases_lt}
use Rattle.std.proofs.lemmas.List.{get_or-drop}
use Rattle.std.proofs.lemmas.List.Sums.{sum_by-drop_more, sum_by-take-drop, sum_by-le-sum_by, sum_by-le}
use Rattle.depth_sweep.specs.declared.bar.Bar.{Bar}
use Rattle.depth_sweep.specs.declared.bar.Event.{Event}
use Rattle.depth_sweep.specs.inside.Bars.{has_row}
use Rattle.depth_sweep.specs.inside.Events.{begin_of, end_of, ends_of, AreEventsOf, MayHappen, put_weight, take_weight, IsBalanced}
use Rattle.skyline_runs.proofs.laws.DepthLaws.{le_true, le_false, lt_true, lt_false}
use Rattle.depth_sweep.proofs.Sums.{sum_by-same, sum_by-none, sum_by-add}

-- a value of an event where it comes above a row
abbrev later : ℤ → (Event → ℕ) → Event → ℕ
later j f event = cond (int_lt j event.row) (f event) 0

module _ (j : ℤ) (f : Event → ℕ) (events : List Event) where
  all_later : All (λ e. j <ℤ e.row) events → sum_by (later j f) events ≡ sum_by f events
  all_later all = sum_by-same (later j f) f events (λ k d s. ap (λ b. cond b (f (get_or events k d)) 0) (lt_true j (get_or events k d).row (all k d s)))

  none_later : All (λ e. e.row ≤ℤ j) events → sum_by (later j f) events ≡ 0
  none_later none = sum_by-none (later j f) events (λ k d s. ap (λ b. cond b (f (get_or events k d)) 0) (lt_false j (get_or events k d).row (none k d s)))

  later_le : sum_by (later j f) events ≤ sum_by f events
  later_le = sum_by-le-sum_by (later j f) f events (λ e. cond_both (int_lt j e.row) (f e) 0 (λ n. n ≤ f e) (λ t. omega arith) (λ t. omega arith))

-- where the events up to a number come no higher than a row, and the others above it
split_later : (j : ℤ) (f : Event → ℕ) (events : List Event) (i : ℕ) → All (λ e. e.row ≤ℤ j) (take i events) → All (λ e. j <ℤ e.row) (drop i events)
    → sum_by f (drop i events) ≡ sum_by (later j f) events
split_later j f events i low high =
    let a = none_later j f (take i events) low in
    let b = all_later j f (drop i events) high in
    omega (arith, a, b, sum_by-take-drop (later j f) events i)

of_bars : (g : Event → ℕ) (bars : List Bar) → sum_by g (flat_map ends_of bars) ≡ sum_by (λ bar. g (begin_of bar) + g (end_of bar)) bars
of_bars g [] = refl
of_bars g (bar ∷ bars) =
    let a = sum_by-cons g (begin_of bar) (end_of bar ∷ flat_map ends_of bars) in
    let b = sum_by-cons g (end_of bar) (flat_map ends_of bars) in
    let c = sum_by-cons (λ (x : Bar). g (begin_of x) + g (end_of x)) bar bars in
    let rest = of_bars g bars in
    omega (arith, a, b, c, rest)

-- a weight of a bar that begins above a row, of one that ends above it, and of one that is over it
abbrev begun : ℤ → (ℕ → ℕ → ℕ) → Bar → ℕ
begun j weight bar = cond (int_lt j bar.bottom) (weight bar.low bar.high) 0

abbrev ended : ℤ → (ℕ → ℕ → ℕ) → Bar → ℕ
ended j weight bar = cond (int_lt j bar.top) (weight bar.low bar.high) 0

abbrev pub over : ℤ → (ℕ → ℕ → ℕ) → Bar → ℕ
over j weight bar = cond (has_row j bar) (weight bar.low bar.high) 0

cond_zero : (b : Bool) → cond {A = ℕ} b 0 0 ≡ 0
cond_zero true = refl
cond_zero false = refl

-- a bar that begins above the row or is over it ends above it, and the other way round
begun_or_over : (j : ℤ) (weight : ℕ → ℕ → ℕ) (bar : Bar) → ended j weight bar ≡ begun j weight bar + over j weight bar
begun_or_over j weight bar = by_lt_z j bar.bottom
    (λ above.
    let up = bar.up in
    let b = ap (λ t. cond t (weight bar.low bar.high) 0) (lt_true j bar.bottom above) in
    let e = ap (λ t. cond t (weight bar.low bar.high) 0) (lt_true j bar.top (omega (arith, ints))) in
    let o = ap (λ t. cond (t && int_lt j bar.top) (weight bar.low bar.high) 0) (le_false bar.bottom j above) in
    omega (arith, b, e, o))
    (λ low.
    let b = ap (λ t. cond t (weight bar.low bar.high) 0) (lt_false j bar.bottom low) in
    let o = ap (λ t. cond (t && int_lt j bar.top) (weight bar.low bar.high) 0) (le_true bar.bottom j low) in
    omega (arith, b, o))

module _ (bars : List Bar) (events : List Event) (are : AreEventsOf bars events) where
  sum_is : (g : Event → ℕ) → sum_by g events ≡ sum_by (λ bar. g (begin_of bar) + g (end_of bar)) bars
  sum_is g = sum_by-IsPermutation g (flat_map ends_of bars) events are.all ∙ of_bars g bars

  puts_later : (j : ℤ) (weight : ℕ → ℕ → ℕ) → sum_by (later j (put_weight weight)) events ≡ sum_by (begun j weight) bars
  puts_later j weight = sum_is (later j (put_weight weight)) ∙ sum_by-same _ (begun j weight) bars (λ k d s. let z = cond_zero (int_lt j (get_or bars k d).top) in omega (arith, z))

  takes_later : (j : ℤ) (weight : ℕ → ℕ → ℕ) → sum_by (later j (take_weight weight)) events ≡ sum_by (ended j weight) bars
  takes_later j weight = sum_is (later j (take_weight weight)) ∙ sum_by-same _ (ended j weight) bars (λ k d s. let z = cond_zero (int_lt j (get_or bars k d).bottom) in omega (arith, z))

  -- all that is put is taken
  pub balance_all : (weight : ℕ → ℕ → ℕ) → IsBalanced weight 0 events
  balance_all weight =
      let a = sum_is (put_weight weight) in let b = sum_is (take_weight weight) in
      let same : sum_by (λ bar. weight bar.low bar.high + 0) bars ≡ sum_by (λ bar. 0 + weight bar.low bar.high) bars = sum_by-same _ _ bars (λ k d s. omega arith) in
      record { balance = omega (arith, a, b, same) }

  module _ (i : ℕ) (e : Event) (small : i < length events) (is : e ≡ get_or events i e) where
    row_of : (d : Event) → (get_or events i d).row ≡ e.row
    row_of d = ap (λ (o : Event). o.row) (get_or_default events i d e small ∙ sym is)

    -- the events before one come no higher, and those from it on come no lower
    pub low_before : All (λ o. o.row ≤ℤ e.row) (take i events)
    low_before k d s =
        let within : k < i = omega (arith, length-take-le i events) in
        let here = row_of d in
        let order = are.ordered k i d within small in
        let at = ap (λ (o : Event). o.row) (get_or-take i events k d within) in
        omega (arith, ints)

    pub high_from : (m : ℕ) → i ≤ m → All (λ o. e.row ≤ℤ o.row) (drop m events)
    high_from m from k d s =
        let at = ap (λ (o : Event). o.row) (get_or-drop m events k d) in
        let here = row_of d in
        let within : m + k < length events = omega (arith, length-drop m events) in
        elim (cases_lt i (m + k)) [
          | inl later ↦ let order = are.ordered i (m + k) d later within in omega (arith, ints)
          | inr first ↦ let z : m + k ≡ i = omega arith in let zero_at = ap (λ n. (get_or events n d).row) z in omega (arith, ints)
        ]

    -- what is put from an event on is taken from there on, too: each bar ends above the row in which it begins
    closes_from : (weight : ℕ → ℕ → ℕ) → sum_by (put_weight weight) (drop i events) ≤ sum_by (take_weight weight) (drop i events)
    closes_from weight =
        let put = put_weight weight in let took = take_weight weight in
        let j = e.row -ℤ pos 1 in
        let a = all_later j put (drop i events) (λ k d s. let h = high_from i (omega arith) k d s in omega (arith, ints)) in
        let b = sum_by-take-drop (later j put) events i in
        let c = puts_later j weight in
        let f = takes_later e.row weight in
        let g = none_later e.row took (take i events) low_before in
        let h = sum_by-take-drop (later e.row took) events i in
        let l = later_le e.row took (drop i events) in
        let more = sum_by-le-sum_by (begun j weight) (ended e.row weight) bars ends_higher in
        omega (arith, a, b, c, f, g, h, l, more)
      where
        ends_higher : (bar : Bar) → begun (e.row -ℤ pos 1) weight bar ≤ ended e.row weight bar
        ends_higher bar = by_lt_z (e.row -ℤ pos 1) bar.bottom
            (λ above.
            let up = bar.up in
            let b = ap (λ t. cond t (weight bar.low bar.high) 0) (lt_true (e.row -ℤ pos 1) bar.bottom above) in
            let t = ap (λ t. cond t (weight bar.low bar.high) 0) (lt_true e.row bar.top (omega (arith, ints))) in
            omega (arith, b, t))
            (λ low. let b = ap (λ t. cond t (weight bar.low bar.high) 0) (lt_false (e.row -ℤ pos 1) bar.bottom low) in omega (arith, b))

  pub closes : (i : ℕ) (d : Event) (weight : ℕ → ℕ → ℕ) → sum_by (put_weight weight) (drop i events) ≤ sum_by (take_weight weight) (drop i events)
  closes i d weight = elim (cases_lt i (length events)) [
    | inl small ↦ closes_from i (get_or events i d) small (get_or_default events i d (get_or events i d) small) weight
    | inr past ↦ let none = drop_all i events past in rw none (omega arith)
  ]

  -- what is put and not taken yet belongs to the bars over the row, where the events so far come no higher and the others above
  pub at_row : (weight : ℕ → ℕ → ℕ) (value i : ℕ) (j : ℤ) → All (λ o. o.row ≤ℤ j) (take i events) → All (λ o. j <ℤ o.row) (drop i events) → IsBalanced weight value (drop i events)
      → value ≡ sum_by (over j weight) bars
  at_row weight value i j low high balanced =
      let put = put_weight weight in let took = take_weight weight in
      let a = split_later j put events i low high in let b = puts_later j weight in
      let c = split_later j took events i low high in let f = takes_later j weight in
      let sum = sum_by-add (begun j weight) (over j weight) (ended j weight) bars (begun_or_over j weight) in
      let all = balanced.balance in
      omega (arith, a, b, c, f, sum, all)

-- ---- one event

-- a value that grows where a bar begins, and falls where one ends
abbrev pub IsMoved : Bool → ℕ → ℕ → ℕ → Type 0
IsMoved true weight old new = new ≡ old + weight
IsMoved false weight old new = new + weight ≡ old

module _ (weight : ℕ → ℕ → ℕ) (events : List Event) (i : ℕ) (e : Event) (small : i < length events) (is : e ≡ get_or events i e) where
  puts_more : sum_by (put_weight weight) (drop i events) ≡ put_weight weight e + sum_by (put_weight weight) (drop (i + 1) events)
  puts_more = sum_by-drop_more (put_weight weight) events i e small ∙ ap (λ o. put_weight weight o + sum_by (put_weight weight) (drop (i + 1) events)) (sym is)

  takes_more : sum_by (take_weight weight) (drop i events) ≡ take_weight weight e + sum_by (take_weight weight) (drop (i + 1) events)
  takes_more = sum_by-drop_more (take_weight weight) events i e small ∙ ap (λ o. take_weight weight o + sum_by (take_weight weight) (drop (i + 1) events)) (sym is)

  pub balance_next : (old new : ℕ) → IsMoved e.begins (weight e.low e.high) old new → IsBalanced weight old (drop i events) → IsBalanced weight new (drop (i + 1) events)
  balance_next old new moved balanced = let p = puts_more in let t = takes_more in let b = balanced.balance in
      record { balance = by_kind e.begins (weight e.low e.high) (sum_by (put_weight weight) (drop (i + 1) events)) (sum_by (take_weight weight) (drop (i + 1) events)) moved (omega (arith, p, t, b)) }
    where
      by_kind : (begins : Bool) (w puts takes : ℕ) → IsMoved begins w old new → old + (cond begins w 0 + puts) ≡ cond begins 0 w + takes → new + puts ≡ takes
      by_kind true w puts takes m h = omega arith
      by_kind false w puts takes m h = omega arith

  -- a count of which one more is put has room, and one of which one is taken is not 0
  pub may_happen : (value : ℕ) → length events < 2 ^ 64 → ((low high : ℕ) → weight low high ≤ 1) → weight e.low e.high ≡ 1
      → sum_by (put_weight weight) (drop (i + 1) events) ≤ sum_by (take_weight weight) (drop (i + 1) events) → IsBalanced weight value (drop i events) → MayHappen e.begins value
  may_happen value short most one closes balanced =
      let p = puts_more in let t = takes_more in let b = balanced.balance in
      let few = sum_by-le (take_weight weight) 1 (drop (i + 1) events) (λ k d s. at_most (get_or (drop (i + 1) events) k d)) in
      let rest = length-drop (i + 1) events in
      by_kind e.begins (weight e.low e.high) (sum_by (put_weight weight) (drop (i + 1) events)) (sum_by (take_weight weight) (drop (i + 1) events))
      (omega (arith, p, t, b)) one closes (omega (arith, few, rest))
    where
      at_most : (o : Event) → take_weight weight o ≤ 1
      at_most o = let m = most o.low o.high in cond_both o.begins 0 (weight o.low o.high) (λ n. n ≤ 1) (λ t. omega arith) (λ t. omega arith)

      by_kind : (begins : Bool) (w puts takes : ℕ) → value + (cond begins w 0 + puts) ≡ cond begins 0 w + takes → w ≡ 1 → puts ≤ takes → takes < 2 ^ 64 → MayHappen begins value
      by_kind true w puts takes h one less fits = omega arith
      by_kind false w puts takes h one less fits = omega arith
