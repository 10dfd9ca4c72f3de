-- runs in the order of their first numbers, and what they come to
use Rattle.std.proofs.Common.{ℕ, List, [], ◌∷◌, ◌++◌, ◌<◌, ◌∙◌, ◌≡◌, sym, subst, inl, inr, ◌⊎◌, arith, ℤ, pos, ◌-ℤ◌, ◌≤ℤ◌, ◌<ℤ◌, ◌↔◌, All, AllPairs, get_or, length, take}
use Rattle.lists.proofs.Words.{int_max, ints, clamps, by_lt_z, get_or_default, get_or-take, length-take}
use Rattle.lists.proofs.Words.{Contains-append_left, Contains-push, Contains-push_cases, All-cons, All-head, All-nil, All-weaker}
use Rattle.lists.proofs.Containing.{All-back, Contains-none}
use Rattle.geo_core.specs.Intervals.{IsIn}
use Rattle.geo_core.proofs.IntervalLaws.{in_or_not}
use Rattle.ring_test.specs.Rings.{IsArc}
use Rattle.ring_test.specs.declared.runs.Run.{Run}
use Rattle.ring_test.specs.declared.merging.Merged.{Merged}
use Rattle.ring_test.specs.declared.merging.Merged.TheVariants.{Nothing, One, Two, More}
use Rattle.ring_test.specs.inside.NumberRuns.{IsInRun, IsInRuns, HasThree, ComesTo, IsMerged}

-- ---- the numbers of runs, one run more at the end

pub runs_more : (runs : List Run) (run : Run) (k : ℤ) → IsInRuns (runs ++ run ∷ []) k ↔ (IsInRuns runs k ⊎ IsInRun run k)
runs_more runs run k = (
  λ r. elim (Contains-push_cases runs run r.run r.among) [
    | inl old ↦ inl (record { run = r.run; among = old; has = r.has })
    | inr new ↦ inr (subst (λ x. IsInRun x k) (sym new) r.has)
  ],
  λ e. elim e [
    | inl old ↦ record { run = old.run; among = Contains-append_left runs (run ∷ []) old.run old.among; has = old.has }
    | inr new ↦ record { run = run; among = Contains-push runs run; has = new }
  ],
)

pub runs_none : (k : ℤ) → IsInRuns [] k → ⊥
runs_none k r = Contains-none r.among

-- ---- what a set comes to, other sets with the same numbers do

pub comes_same : (set other : ℤ → Type 0) → ((k : ℤ) → set k ↔ other k) → (latest : ℤ) (merged : Merged) → ComesTo set latest merged → ComesTo other latest merged
comes_same set other same latest Nothing none = λ k is. none k ((same k).1 is)
comes_same set other same latest (One run) (known, is) = (known, λ k. (λ o. (is k).0 ((same k).1 o), λ i. (same k).0 ((is k).1 i)))
comes_same set other same latest (Two a b) (apart, known, is) = (apart, known, λ k. (λ o. (is k).0 ((same k).1 o), λ i. (same k).0 ((is k).1 i)))
comes_same set other same latest More three = record {
  first = three.first;
  gap = three.gap;
  second = three.second;
  other_gap = three.other_gap;
  third = three.third;
  rising = three.rising;
  known = three.known;
  has = ((same three.first).0 three.has.0, (same three.second).0 three.has.1, (same three.third).0 three.has.2);
  lacks = (λ o. three.lacks.0 ((same three.gap).1 o), λ o. three.lacks.1 ((same three.other_gap).1 o));
}

-- ---- a set with the numbers of one run more, which begins no earlier than those of the set

-- two intervals of which the second begins within the first, or at its end
joined : (a b c d from to x : ℤ) → a ≤ℤ c → c ≤ℤ b → from ≡ a → to ≡ int_max b d → (IsIn a b x ⊎ IsIn c d x) ↔ IsIn from to x
joined a b c d from to x low meets e f = (
  λ either. elim either [
    | inl i ↦ record { from = omega (arith, ints); before = omega (arith, ints, clamps) }
    | inr i ↦ record { from = omega (arith, ints); before = omega (arith, ints, clamps) }
  ],
  λ i. by_lt_z x b (λ l. inl (record { from = omega (arith, ints); before = l })) (λ m. inr (record { from = omega (arith, ints); before = omega (arith, ints, clamps) })),
)

-- the set, with the numbers of the run
abbrev pub WithRun : (ℤ → Type 0) → Run → ℤ → Type 0
WithRun set run k = set k ⊎ IsInRun run k

module _ (set : ℤ → Type 0) (run : Run) (latest : ℤ) (known : run.from ≤ℤ latest) where
  abbrev With : ℤ → Type 0
  With = WithRun set run

  pub with_nothing : ComesTo set run.from Nothing → ComesTo With latest (One run)
  with_nothing none = (known, λ k. (λ w. elim w [ inl s ↦ absurd (none k s) | inr i ↦ i ], λ i. inr i))

  -- in a set that has the numbers of a run
  module _ (only : Run) (so_far : ComesTo set run.from (One only)) where
    pub with_one_apart : only.to <ℤ run.from → ComesTo With latest (Two only run)
    with_one_apart apart = (
      apart,
      known,
      λ k. (λ w. elim w [ inl s ↦ inl ((so_far.1 k).0 s) | inr i ↦ inr i ], λ e. elim e [ inl i ↦ inl ((so_far.1 k).1 i) | inr i ↦ inr i ]),
    )

    pub with_one_joined : (next : Run) → run.from ≤ℤ only.to → next.from ≡ only.from → next.to ≡ int_max only.to run.to → ComesTo With latest (One next)
    with_one_joined next meets e f =
        let low = so_far.0 in
        let both = λ (k : ℤ). joined only.from only.to run.from run.to next.from next.to k low meets e f in (
          omega (arith, ints),
          λ k. (
            λ w. (both k).0 (elim w [ inl s ↦ inl ((so_far.1 k).0 s) | inr i ↦ inr i ]),
            λ i. elim ((both k).1 i) [ inl a ↦ inl ((so_far.1 k).1 a) | inr b ↦ inr b ],
          ),
        )

  -- in a set that has the numbers of two
  module _ (one last : Run) (so_far : ComesTo set run.from (Two one last)) where
    pub with_two_joined : (next : Run) → run.from ≤ℤ last.to → next.from ≡ last.from → next.to ≡ int_max last.to run.to → ComesTo With latest (Two one next)
    with_two_joined next meets e f =
        let low = so_far.1 in
        let apart = so_far.0 in
        let both = λ (k : ℤ). joined last.from last.to run.from run.to next.from next.to k low meets e f in (
          omega (arith, ints),
          omega (arith, ints),
          λ k. (
            λ w. elim w [
              | inl s ↦ elim ((so_far.2 k).0 s) [ inl a ↦ inl a | inr b ↦ inr ((both k).0 (inl b)) ]
              | inr i ↦ inr ((both k).0 (inr i))
            ],
            λ e. elim e [
              | inl a ↦ inl ((so_far.2 k).1 (inl a))
              | inr i ↦ elim ((both k).1 i) [ inl b ↦ inl ((so_far.2 k).1 (inr b)) | inr r ↦ inr r ]
            ],
          ),
        )

    not_with : (k : ℤ) → (IsInRun one k → ⊥) → (IsInRun last k → ⊥) → (IsInRun run k → ⊥) → With k → ⊥
    not_with k a b c (inl s) = elim ((so_far.2 k).0 s) [ inl i ↦ a i | inr i ↦ b i ]
    not_with k a b c (inr i) = c i

    pub with_two_apart : last.to <ℤ run.from → ComesTo With latest More
    with_two_apart apart =
        let a = one.some in let b = last.some in let c = run.some in
        let d = so_far.0 in
        record {
          first = one.from;
          gap = one.to;
          second = last.from;
          other_gap = last.to;
          third = run.from;
          rising = (a, d, b, apart);
          known = known;
          has = (
            inl ((so_far.2 one.from).1 (inl (record { from = omega (arith, ints); before = a }))),
            inl ((so_far.2 last.from).1 (inr (record { from = omega (arith, ints); before = b }))),
            inr (record { from = omega (arith, ints); before = c }),
          );
          lacks = (
            not_with one.to (λ i. absurd (omega (arith, ints))) (λ i. absurd (omega (arith, ints))) (λ i. absurd (omega (arith, ints))),
            not_with last.to (λ i. absurd (omega (arith, ints))) (λ i. absurd (omega (arith, ints))) (λ i. absurd (omega (arith, ints))),
          );
        }

  pub with_more : ComesTo set run.from More → ComesTo With latest More
  with_more three =
      let r0 = three.rising.0 in let r1 = three.rising.1 in let r2 = three.rising.2 in let r3 = three.rising.3 in
      record {
        first = three.first;
        gap = three.gap;
        second = three.second;
        other_gap = three.other_gap;
        third = three.third;
        rising = three.rising;
        known = let a = three.known in omega (arith, ints);
        has = (inl three.has.0, inl three.has.1, inl three.has.2);
        lacks = (
          λ w. elim w [ inl s ↦ three.lacks.0 s | inr i ↦ absurd (let a = three.known in let b = i.from in omega (arith, ints)) ],
          λ w. elim w [ inl s ↦ three.lacks.1 s | inr i ↦ absurd (let a = three.known in let b = i.from in omega (arith, ints)) ],
        );
      }

-- ---- lists of runs

-- what is so at each bound on the first numbers so far is so with one run more
pub merged_more : (runs : List Run) (run : Run) (merged next : Merged) → All (λ (earlier : Run). earlier.from ≤ℤ run.from) runs → IsMerged runs merged
    → ((latest : ℤ) → run.from ≤ℤ latest → ComesTo (IsInRuns runs) run.from merged → ComesTo (WithRun (IsInRuns runs) run) latest next) → IsMerged (runs ++ run ∷ []) next
merged_more runs run merged next earlier so_far grows = record {
  comes_to = λ latest all. comes_same _ (IsInRuns (runs ++ run ∷ [])) (λ k. let e = runs_more runs run k in (e.1, e.0)) latest next
      (grows latest (last_known latest all) (so_far.comes_to run.from earlier));
} where
  last_known : (latest : ℤ) → All (λ (r : Run). r.from ≤ℤ latest) (runs ++ run ∷ []) → run.from ≤ℤ latest
  last_known latest all = All-head (λ (r : Run). r.from ≤ℤ latest) run [] (All-back (λ (r : Run). r.from ≤ℤ latest) runs (run ∷ []) all)

-- in a list in the order of first numbers, each run before some place begins no later than the one there
pub before_here : (runs : List Run) (k : ℕ) (run : Run) → k < length runs → run ≡ get_or runs k run → AllPairs (λ (a b : Run). a.from ≤ℤ b.from) runs
    → All (λ (e : Run). e.from ≤ℤ run.from) (take k runs)
before_here runs k run small is order j d less =
    let before : j < k = omega (arith, length-take k runs) in
    let here : get_or runs k d ≡ run = get_or_default runs k d run small ∙ sym is in
    subst (λ (r : Run). r.from ≤ℤ run.from) (sym (get_or-take k runs j d before)) (subst (λ (r : Run). (get_or runs j d).from ≤ℤ r.from) here (order j k d before small))

pub merged_none : IsMerged [] Nothing
merged_none = record { comes_to = λ latest all k. runs_none k }

-- ---- by what runs come to

module _ (runs : List Run) (run : Run) (merged : Merged) (earlier : All (λ (e : Run). e.from ≤ℤ run.from) runs) (so_far : IsMerged runs merged) where
  abbrev Grown : Merged → Type 0
  Grown next = IsMerged (runs ++ run ∷ []) next

  pub more_nothing : merged ≡ Nothing → Grown (One run)
  more_nothing e = merged_more runs run Nothing (One run) earlier (subst (IsMerged runs) e so_far) (λ latest known c. with_nothing (IsInRuns runs) run latest known c)

  pub more_one_apart : (only : Run) → merged ≡ One only → only.to <ℤ run.from → Grown (Two only run)
  more_one_apart only e apart = merged_more runs run (One only) (Two only run) earlier (subst (IsMerged runs) e so_far) (λ latest known c. with_one_apart (IsInRuns runs) run latest known only c apart)

  pub more_one_joined : (only next : Run) → merged ≡ One only → run.from ≤ℤ only.to → next.from ≡ only.from → next.to ≡ int_max only.to run.to → Grown (One next)
  more_one_joined only next e meets f g =
      merged_more runs run (One only) (One next) earlier (subst (IsMerged runs) e so_far) (λ latest known c. with_one_joined (IsInRuns runs) run latest known only c next meets f g)

  pub more_two_apart : (one last : Run) → merged ≡ Two one last → last.to <ℤ run.from → Grown More
  more_two_apart one last e apart =
      merged_more runs run (Two one last) More earlier (subst (IsMerged runs) e so_far) (λ latest known c. with_two_apart (IsInRuns runs) run latest known one last c apart)

  pub more_two_joined : (one last next : Run) → merged ≡ Two one last → run.from ≤ℤ last.to → next.from ≡ last.from → next.to ≡ int_max last.to run.to → Grown (Two one next)
  more_two_joined one last next e meets f g =
      merged_more runs run (Two one last) (Two one next) earlier (subst (IsMerged runs) e so_far) (λ latest known c. with_two_joined (IsInRuns runs) run latest known one last c next meets f g)

  pub more_more : merged ≡ More → Grown More
  more_more e = merged_more runs run More More earlier (subst (IsMerged runs) e so_far) (λ latest known c. with_more (IsInRuns runs) run latest known c)

-- some number is at least the first of each run
latest_of : (runs : List Run) → (latest : ℤ) × All (λ (r : Run). r.from ≤ℤ latest) runs
latest_of [] = (pos 0, All-nil _)
latest_of (run ∷ runs) =
    let l = latest_of runs in
    let top : ℤ = int_max run.from l.0 in
    let here : run.from ≤ℤ top = omega (arith, ints, clamps) in
    let all : (r : Run) → r.from ≤ℤ l.0 → r.from ≤ℤ top = λ r le. omega (arith, ints, clamps) in
    (top, All-cons (λ (r : Run). r.from ≤ℤ top) run runs here (All-weaker (λ (r : Run). r.from ≤ℤ l.0) (λ (r : Run). r.from ≤ℤ top) all runs l.1))

-- ---- one arc, or not

module _ (count : ℤ) (set : ℤ → Type 0) (inside : (k : ℤ) → set k → IsIn (pos 0) count k) where
  arc_none : ((k : ℤ) → set k → ⊥) → IsArc count set
  arc_none none = record { from = pos 0; to = pos 0; either = inl (λ k is. (λ s. absurd (none k s), λ i. absurd (omega (arith, ints)))) }

  arc_one : (run : Run) → ((k : ℤ) → set k ↔ IsInRun run k) → IsArc count set
  arc_one run is = record { from = run.from; to = run.to; either = inl (λ k number. is k) }

  -- two runs, of which the one begins at 0 and the other ends with the last number
  arc_two : (one last : Run) → one.from ≡ pos 0 → last.to ≡ count → one.to <ℤ last.from → ((k : ℤ) → set k ↔ (IsInRun one k ⊎ IsInRun last k)) → IsArc count set
  arc_two one last e f apart is = record {
    from = one.to;
    to = last.from;
    either = inr (λ k number. (
      λ s. λ i. elim ((is k).0 s) [ inl a ↦ absurd (omega (arith, ints)) | inr b ↦ absurd (omega (arith, ints)) ],
      λ out. (is k).1 (by_lt_z k one.to (λ l. inl (record { from = omega (arith, ints); before = l }))
          (λ m. by_lt_z k last.from (λ l. absurd (out (record { from = m; before = l }))) (λ n. inr (record { from = n; before = omega (arith, ints) })))),
    ));
  }

  -- numbers of the set with others between them, and others with numbers of the set between them, are no arc
  broken : (a b c d : ℤ) → a <ℤ b → b <ℤ c → c <ℤ d → IsIn (pos 0) count a → IsIn (pos 0) count d → set a → (set b → ⊥) → set c → (set d → ⊥) → IsArc count set → ⊥
  broken a b c d p q r low high in_a out_b in_c out_d arc =
      let at_b : IsIn (pos 0) count b = record { from = omega (arith, ints); before = omega (arith, ints) } in
      let at_c : IsIn (pos 0) count c = record { from = omega (arith, ints); before = omega (arith, ints) } in
      elim arc.either [
        | inl run ↦
            let x = (run a low).0 in_a in let y = (run c at_c).0 in_c in
            out_b ((run b at_b).1 (record { from = omega (arith, ints); before = omega (arith, ints) }))
        | inr others ↦ elim (in_or_not arc.from arc.to b) [
          | inr n ↦ out_b ((others b at_b).1 n)
          | inl x ↦ elim (in_or_not arc.from arc.to d) [
            | inr n ↦ out_d ((others d high).1 n)
            | inl y ↦ (others c at_c).0 in_c (record { from = omega (arith, ints); before = omega (arith, ints) })
          ]
        ]
      ]

  broken_before : (a b c d : ℤ) → a <ℤ b → b <ℤ c → c <ℤ d → IsIn (pos 0) count a → IsIn (pos 0) count d → (set a → ⊥) → set b → (set c → ⊥) → set d → IsArc count set → ⊥
  broken_before a b c d p q r low high out_a in_b out_c in_d arc =
      let at_b : IsIn (pos 0) count b = record { from = omega (arith, ints); before = omega (arith, ints) } in
      let at_c : IsIn (pos 0) count c = record { from = omega (arith, ints); before = omega (arith, ints) } in
      elim arc.either [
        | inl run ↦
            let x = (run b at_b).0 in_b in let y = (run d high).0 in_d in
            out_c ((run c at_c).1 (record { from = omega (arith, ints); before = omega (arith, ints) }))
        | inr others ↦ elim (in_or_not arc.from arc.to a) [
          | inr n ↦ out_a ((others a low).1 n)
          | inl x ↦ elim (in_or_not arc.from arc.to c) [
            | inr n ↦ out_c ((others c at_c).1 n)
            | inl y ↦ (others b at_b).0 in_b (record { from = omega (arith, ints); before = omega (arith, ints) })
          ]
        ]
      ]

  three_no_arc : (latest : ℤ) → HasThree set latest → IsArc count set → ⊥
  three_no_arc latest three =
      let high = inside three.third three.has.2 in
      let r3 = three.rising.3 in let r2 = three.rising.2 in let r1 = three.rising.1 in let r0 = three.rising.0 in
      let low = inside three.first three.has.0 in
      broken three.first three.gap three.second three.other_gap r0 r1 r2 low (record { from = omega (arith, ints); before = omega (arith, ints) })
      three.has.0 three.lacks.0 three.has.1 three.lacks.1

  two_no_arc : (one last : Run) → one.to <ℤ last.from → ((k : ℤ) → set k ↔ (IsInRun one k ⊎ IsInRun last k)) → (one.from ≡ pos 0 → last.to ≡ count → ⊥) → IsArc count set → ⊥
  two_no_arc one last apart is differ =
      let p = one.some in let q = last.some in
      let begins = inside one.from ((is one.from).1 (inl (record { from = omega (arith, ints); before = p }))) in
      let ends = inside (last.to -ℤ pos 1) ((is (last.to -ℤ pos 1)).1 (inr (record { from = omega (arith, ints); before = omega (arith, ints) }))) in
      let in_one : set one.from = (is one.from).1 (inl (record { from = omega (arith, ints); before = p })) in
      let in_last : set last.from = (is last.from).1 (inr (record { from = omega (arith, ints); before = q })) in
      let out : (k : ℤ) → (IsInRun one k → ⊥) → (IsInRun last k → ⊥) → set k → ⊥ = λ k a b s. elim ((is k).0 s) [ inl i ↦ a i | inr i ↦ b i ] in
      let gap : set one.to → ⊥ = out one.to (λ i. absurd (omega (arith, ints))) (λ i. absurd (omega (arith, ints))) in
      by_lt_z (pos 0) one.from
      (λ l. broken_before (pos 0) one.from one.to last.from l p apart (record { from = omega (arith, ints); before = omega (arith, ints) }) (inside last.from in_last)
      (out (pos 0) (λ i. absurd (omega (arith, ints))) (λ i. absurd (omega (arith, ints)))) in_one gap in_last)
      (λ m. by_lt_z last.to count
      (λ l. broken one.from one.to last.from last.to p apart q begins (record { from = omega (arith, ints); before = l }) in_one gap in_last
      (out last.to (λ i. absurd (omega (arith, ints))) (λ i. absurd (omega (arith, ints)))))
      (λ n. absurd (differ (omega (arith, ints)) (omega (arith, ints)))))

-- ---- whether what runs come to is one arc

module _ (runs : List Run) (count : ℤ) (inside : (k : ℤ) → IsInRuns runs k → IsIn (pos 0) count k) where
  pub nothing_arc : IsMerged runs Nothing → IsArc count (IsInRuns runs)
  nothing_arc is = arc_none count (IsInRuns runs) inside (is.comes_to (latest_of runs).0 (latest_of runs).1)

  pub one_arc : (run : Run) → IsMerged runs (One run) → IsArc count (IsInRuns runs)
  one_arc run is = arc_one count (IsInRuns runs) inside run (is.comes_to (latest_of runs).0 (latest_of runs).1).1

  pub two_arcs : (one last : Run) → IsMerged runs (Two one last) → one.from ≡ pos 0 → last.to ≡ count → IsArc count (IsInRuns runs)
  two_arcs one last is e f = let c = is.comes_to (latest_of runs).0 (latest_of runs).1 in arc_two count (IsInRuns runs) inside one last e f c.0 c.2

  pub two_apart : (one last : Run) → IsMerged runs (Two one last) → (one.from ≡ pos 0 → last.to ≡ count → ⊥) → IsArc count (IsInRuns runs) → ⊥
  two_apart one last is differ = let c = is.comes_to (latest_of runs).0 (latest_of runs).1 in two_no_arc count (IsInRuns runs) inside one last c.0 c.2 differ

  pub more_no_arc : IsMerged runs More → IsArc count (IsInRuns runs) → ⊥
  more_no_arc is = three_no_arc count (IsInRuns runs) inside (latest_of runs).0 (is.comes_to (latest_of runs).0 (latest_of runs).1)

-- an arc of one set is one of another with the same numbers
pub arc_same : (count : ℤ) (set other : ℤ → Type 0) → ((k : ℤ) → IsIn (pos 0) count k → set k ↔ other k) → IsArc count set → IsArc count other
arc_same count set other same arc = record {
  from = arc.from;
  to = arc.to;
  either = elim arc.either [
    | inl run ↦ inl (λ k number. (λ o. (run k number).0 ((same k number).1 o), λ i. (same k number).0 ((run k number).1 i)))
    | inr others ↦ inr (λ k number. (λ o. (others k number).0 ((same k number).1 o), λ n. (same k number).0 ((others k number).1 n)))
  ];
}
