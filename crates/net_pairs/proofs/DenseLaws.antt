-- the law of changes and slabs: how often two labels cover cells of a window, from what changes and slabs have in common
use Rattle.std.proofs.Common.{ℕ, zero, suc, pos, Bool, List, [], ◌∷◌, ◌+◌, ◌*◌, ◌<◌, ◌≤◌, ◌+ℤ◌, ◌≡◌, ◌∙◌, ◌⊎◌, refl, sym, ap, subst, cond, true, false, inl, inr, arith, All, AllPairs, Contains, ◌&&◌, ◌==◌, sum_by, mul_comm}
use Rattle.lists.proofs.Words.{All-contains, cases_Bool, cases_lt, eqb_tells, ints, sum_by-cons, false≢true}
use Rattle.lists.proofs.Containing.{Contains-cons_cases, Contains-head, Contains-none, Contains-tail}
use Rattle.lists.proofs.Differing.{AllPairs-tail}
use Rattle.std.proofs.lemmas.Bool.{le-ltb, lt-ltb}
use Rattle.geo_core.specs.Plane.{Has}
use Rattle.geo_core.specs.declared.plane.Cell.{Cell}
use Rattle.geo_core.specs.declared.plane.Labelled.{Labelled}
use Rattle.geo_core.specs.declared.plane.Rect.{Rect}
use Rattle.fault_model.specs.FaultNames.{Tally, cells_of, hit, miss, none}
use Rattle.fault_model.proofs.CellLaws.{has_from_listed}
use Rattle.fault_model.proofs.TallyLaws.{Tally-none}
use Rattle.skyline_runs.specs.Depths.{has_cell}
use Rattle.skyline_runs.proofs.laws.DepthLaws.{has_from, has_not, has_so}
use Rattle.short_area.specs.Zones.{IsInLabel}
use Rattle.net_pairs.specs.declared.weighted.Weighted.{Weighted}
use Rattle.net_pairs.specs.inside.RowChanges.{AreChangesOf, below, count_in, weight_at}
use Rattle.net_pairs.specs.inside.Dense.{AreLowered, AreSlabsOf, AreWeighed, AreWeighedChangesOf, GainsByChanges, common_weight, rows_up}
use Rattle.net_pairs.specs.inside.PairGains.{GainsCells, IsInBoth}
use Rattle.net_pairs.specs.inside.RunsOfLabels.{IsApart}
use Rattle.net_pairs.specs.inside.SameRests.{HaveOneRest}
use Rattle.net_pairs.proofs.DoubleSums.{sums_added, sums_agree}
use Rattle.net_pairs.proofs.RestLaws.{rest_added, rest_chained, rest_equal, rest_multiplied, rest_refl, rest_sums, rest_sym, rest_trans}
use Rattle.net_pairs.proofs.RowSums.{sum_by_parts, sum_moved}
use Rattle.net_pairs.proofs.SumLaws.{Item}

-- ---- how often a label of runs covers a cell

-- 1 for a run with this label that has the cell of the window, and 0 for any other
abbrev counted : Rect → ℕ → Cell → Labelled → ℕ
counted window label c run = cond (run.label == label && (has_cell c run.rect && has_cell c window)) 1 0

module _ (window : Rect) (label : ℕ) (c : Cell) where
  counted_or_not : (run : Labelled) → Has window c
      → ((run.label ≡ label) × Has run.rect c × (counted window label c run ≡ 1)) ⊎ (((run.label ≡ label) × Has run.rect c → ⊥) × (counted window label c run ≡ 0))
  counted_or_not run at = elim (eqb_tells run.label label) [
    | inl h ↦ elim (cases_Bool (has_cell c run.rect)) [
      | inl t ↦ inl (h.1, has_from c run.rect t, rw (h.0, t, has_so c window at) refl)
      | inr t ↦ inr (λ k. false≢true (sym t ∙ has_so c run.rect k.1), rw (h.0, t) refl)
    ]
    | inr h ↦ inr (λ k. h.1 k.0, rw h.0 refl)
  ]

  none_outside : (runs : List Labelled) → (Has window c → ⊥) → count_in window runs label c ≡ 0
  none_outside [] out = refl
  none_outside (run ∷ runs) out =
      let a = sum_by-cons (counted window label c) run runs in
      let rest = none_outside runs out in
      let here : counted window label c run ≡ 0 = rw (has_not c window out) (never (run.label == label) (has_cell c run.rect)) in
      omega (arith, a, rest, here)
    where
      never : (s t : Bool) → (cond {A = ℕ} (s && (t && false)) 1 0) ≡ 0
      never true true = refl
      never true false = refl
      never false t = refl

  -- a label covers a cell once or not at all
  once_or_never : (runs : List Labelled) → AllPairs IsApart runs → Has window c → (IsInLabel runs label c × (count_in window runs label c ≡ 1)) ⊎ ((IsInLabel runs label c → ⊥) × (count_in window runs label c ≡ 0))
  once_or_never [] apart at = inr (λ h. Contains-none h.among, refl)
  once_or_never (run ∷ runs) apart at =
      let a = sum_by-cons (counted window label c) run runs in
      elim (counted_or_not run at) [
        | inl h ↦ elim (once_or_never runs (AllPairs-tail IsApart run runs apart) at) [
          | inl k ↦ absurd (never_twice h.0 h.1 k.0)
          | inr k ↦ let e = h.2 in let f = k.1 in inl (record { zone = run; among = Contains-head run runs; labelled = h.0; has = h.1 }, omega (arith, a, e, f))
        ]
        | inr h ↦ elim (once_or_never runs (AllPairs-tail IsApart run runs apart) at) [
          | inl k ↦ let e = h.1 in let f = k.1 in let i = k.0 in inl (record { zone = i.zone; among = Contains-tail run runs i.zone i.among; labelled = i.labelled; has = i.has }, omega (arith, a, e, f))
          | inr k ↦ let e = h.1 in let f = k.1 in inr (
            λ i. elim (Contains-cons_cases run runs i.zone i.among) [
              | inl is ↦ h.0 (ap (λ (z : Labelled). z.label) is ∙ i.labelled, subst (λ (z : Labelled). Has z.rect c) (sym is) i.has)
              | inr later ↦ k.0 (record { zone = i.zone; among = later; labelled = i.labelled; has = i.has })
            ],
            omega (arith, a, e, f),
          )
        ]
      ]
    where
      never_twice : run.label ≡ label → Has run.rect c → IsInLabel runs label c → ⊥
      never_twice e h k =
          let behind : All (IsApart run) runs = λ n d within. apart zero (suc n) d (omega arith) (omega arith) in
          let l = k.labelled in
          elim (All-contains (IsApart run) runs k.zone behind k.among) [ inl less ↦ absurd (omega arith) | inr both ↦ both.1 (c, h, k.has) ]

-- ---- cells of both labels

-- a number that is 1 where a property holds, and 0 where it does not
sum_tally : (P : Cell → Type 0) (f : Cell → ℕ) (cs : List Cell) → ((c : Cell) → Contains cs c → (P c × (f c ≡ 1)) ⊎ ((P c → ⊥) × (f c ≡ 0))) → Tally P cs (sum_by f cs)
sum_tally P f [] each = none
sum_tally P f (c ∷ cs) each =
    let a = sum_by-cons f c cs in
    let rest = sum_tally P f cs (λ d h. each d (Contains-tail c cs d h)) in
    elim (each c (Contains-head c cs)) [
      | inl h ↦ let e = h.1 in let s : suc (sum_by f cs) ≡ sum_by f (c ∷ cs) = omega (arith, a, e) in subst (Tally P (c ∷ cs)) s (hit h.0 rest)
      | inr h ↦ let e = h.1 in let s : sum_by f cs ≡ sum_by f (c ∷ cs) = omega (arith, a, e) in subst (Tally P (c ∷ cs)) s (miss h.0 rest)
    ]

-- how often both labels cover a cell
abbrev covered : Rect → List Labelled → ℕ → ℕ → Cell → ℕ
covered window runs one other c = count_in window runs one c * count_in window runs other c

module _ (window : Rect) (runs : List Labelled) (one other : ℕ) where
  both_tally : AllPairs IsApart runs → one < other → Tally (IsInBoth runs one other) (cells_of window) (sum_by (covered window runs one other) (cells_of window))
  both_tally apart lesser = sum_tally (IsInBoth runs one other) (covered window runs one other) (cells_of window) (λ c listed.
      let at = has_from_listed window c listed in
      elim (once_or_never window one c runs apart at) [
        | inl h ↦ elim (once_or_never window other c runs apart at) [
          | inl k ↦ inl (record { lesser = lesser; in_one = h.0; in_other = k.0 }, rw (h.1, k.1) refl)
          | inr k ↦ inr (λ i. k.0 i.in_other, rw (k.1) (mul_comm _ 0 ∙ omega arith))
        ]
        | inr h ↦ inr (λ i. h.0 i.in_one, rw (h.1) (omega arith))
      ])

-- ---- changes and slabs

module _ (window : Rect) (runs : List Labelled) (changes weighed lowered slabs : List Weighted)
    (are : AreChangesOf window runs changes) (are_weighed : AreWeighed window changes weighed) (are_lowered : AreLowered window weighed lowered)
    (are_slabs : AreSlabsOf window runs slabs) (one other : ℕ) where
  -- what both cover in a cell comes of what they cover in the cell below, and of the changes of each
  abbrev gained : Cell → ℕ
  gained c = weight_at changes one c * count_in window runs other c + count_in window runs one (below c) * weight_at changes other c

  cell_gains : (c : Cell) → Has window c → HaveOneRest (covered window runs one other c) (covered window runs one other (below c) + gained c)
  cell_gains c at = both_gain _ _ _ _ _ _ (are.change one c at) (are.change other c at)
    where
      both_gain : (a a' b b' d e : ℕ) → HaveOneRest a (a' + d) → HaveOneRest b (b' + e) → HaveOneRest (a * b) (a' * b' + (d * b + a' * e))
      both_gain a a' b b' d e h k =
          rest_trans (rest_multiplied h (rest_refl b)) (rest_trans (rest_equal (omega arith))
          (rest_trans (rest_added (rest_refl (d * b)) (rest_multiplied (rest_refl a') k)) (rest_equal (omega arith))))

  outside : (label : ℕ) (c : Cell) → c.j ≡ window.y0 → count_in window runs label (below c) ≡ 0
  outside label c e = none_outside window label (below c) runs (λ h. let l = h.up.from in absurd (omega (arith, ints)))

  -- changes of the lesser label meet slabs of the other
  lesser_changes : HaveOneRest (sum_by (λ c. weight_at weighed one c * weight_at slabs other c) (cells_of window))
      (sum_by (λ c. rows_up window c * (weight_at changes one c * count_in window runs other c)) (cells_of window))
  lesser_changes = rest_sums _ _ (cells_of window) (λ c listed.
      let at = has_from_listed window c listed in
      rest_trans (rest_multiplied (are_weighed.weight one c at) (are_slabs.weight other c at)) (rest_equal (grouped (rows_up window c) (weight_at changes one c) (count_in window runs other c))))
    where
      grouped : (n d b : ℕ) → n * d * b ≡ n * (d * b)
      grouped n d b = omega arith

  -- slabs of the lesser label meet changes of the other, one row lower
  greater_changes : HaveOneRest (sum_by (λ c. weight_at slabs one c * weight_at lowered other c) (cells_of window))
      (sum_by (λ c. rows_up window c * (count_in window runs one (below c) * weight_at changes other c)) (cells_of window))
  greater_changes =
      rest_trans (rest_sums _ (λ c. count_in window runs one c * weight_at lowered other c) (cells_of window) (λ c listed.
      rest_multiplied (are_slabs.weight one c (has_from_listed window c listed)) (rest_refl (weight_at lowered other c))))
      (rest_trans (rest_equal (sym (sum_moved window (λ c. count_in window runs one c * weight_at lowered other c) (λ c. count_in window runs one (below c) * weight_at weighed other c) moved top low)))
      (rest_sums _ _ (cells_of window) (λ c listed.
      rest_trans (rest_multiplied (rest_refl (count_in window runs one (below c))) (are_weighed.weight other c (has_from_listed window c listed)))
      (rest_equal (grouped (count_in window runs one (below c)) (rows_up window c) (weight_at changes other c))))))
    where
      nothing : (m n : ℕ) → 0 * m ≡ 0 * n
      nothing m n = omega arith

      moved : (c : Cell) → Has window c → count_in window runs one (below c) * weight_at weighed other c ≡ count_in window runs one (below c) * weight_at lowered other (below c)
      moved c at = elim (cases_Bool (has_cell (below c) window)) [
        | inl t ↦ ap (λ n. count_in window runs one (below c) * n) (sym (are_lowered.moved other c at (has_from (below c) window t)))
        | inr t ↦
            let z = none_outside window one (below c) runs (λ h. false≢true (sym t ∙ has_so (below c) window h)) in
            rw z (nothing (weight_at weighed other c) (weight_at lowered other (below c)))
      ]

      grouped : (a n e : ℕ) → a * (n * e) ≡ n * (a * e)
      grouped a n e = omega arith

      top : (c : Cell) → c.j +ℤ pos 1 ≡ window.y1 → count_in window runs one c * weight_at lowered other c ≡ 0
      top c e = ap (λ n. count_in window runs one c * n) (are_lowered.none_at_top other c e) ∙ omega arith

      low : (c : Cell) → c.j ≡ window.y0 → count_in window runs one (below c) * weight_at lowered other (below c) ≡ 0
      low c e = ap (λ n. n * weight_at lowered other (below c)) (outside one c e) ∙ omega arith

  changes_sum : sum_by (λ c. rows_up window c * (weight_at changes one c * count_in window runs other c)) (cells_of window)
      + sum_by (λ c. rows_up window c * (count_in window runs one (below c) * weight_at changes other c)) (cells_of window)
      ≡ sum_by (λ c. rows_up window c * gained c) (cells_of window)
  changes_sum =
      let f : Cell → ℕ = λ c. rows_up window c * (weight_at changes one c * count_in window runs other c) in
      let g : Cell → ℕ = λ c. rows_up window c * (count_in window runs one (below c) * weight_at changes other c) in
      sym (sums_added f g (cells_of window)) ∙ sums_agree (λ c. f c + g c) (λ c. rows_up window c * gained c) (cells_of window) (λ c listed. both _ _ _)
    where
      both : (n x y : ℕ) → n * x + n * y ≡ n * (x + y)
      both n x y = omega arith

  -- both together are how many cells both labels cover
  both_found : one < other → HaveOneRest (common_weight window weighed slabs one other + common_weight window slabs lowered one other) (sum_by (covered window runs one other) (cells_of window))
  both_found lesser = rw (lt-ltb one other lesser) (
      rest_trans (rest_added lesser_changes greater_changes) (rest_trans (rest_equal changes_sum)
      (rest_sym (sum_by_parts window (covered window runs one other) gained cell_gains low))))
    where
      low : (c : Cell) → c.j ≡ window.y0 → covered window runs one other (below c) ≡ 0
      low c e = ap (λ n. n * count_in window runs other (below c)) (outside one c e) ∙ omega arith

  none_found : other ≤ one → common_weight window weighed slabs one other + common_weight window slabs lowered one other ≡ 0
  none_found more = rw (le-ltb one other more) refl

gained_both : (a m n : ℕ) {b c k : ℕ} → HaveOneRest b (a + m) → HaveOneRest c (b + n) → HaveOneRest (m + n) k → HaveOneRest c (a + k)
gained_both a m n first last both = rest_trans (rest_chained a m n refl first last) (rest_added (rest_refl a) both)

-- what weighed changes and slabs have in common is how many cells each two labels cover
pub dense_gains : (window : Rect) (runs : List Labelled) (weighed slabs : List Weighted) (old new : List Item) → AllPairs IsApart runs
    → AreWeighedChangesOf window runs weighed → AreSlabsOf window runs slabs → GainsByChanges window weighed slabs old new → GainsCells (IsInBoth runs) window old new
dense_gains window runs weighed slabs old new apart changes are_slabs gains one other =
    let here = gains.first.sum one other in
    let there = gains.second.sum one other in
    elim (cases_lt one other) [
      | inl lesser ↦ record {
        cells = sum_by (covered window runs one other) (cells_of window);
        tally = both_tally window runs one other apart lesser;
        sum = gained_both _ _ _ here there (both_found window runs changes.changes weighed gains.lowered slabs changes.are changes.weighed_are gains.are are_slabs one other lesser);
      }
      | inr more ↦ record {
        cells = 0;
        tally = Tally-none (cells_of window) (λ c listed h. let l = h.lesser in absurd (omega arith));
        sum = gained_both _ _ _ here there (rest_equal (none_found window runs changes.changes weighed gains.lowered slabs changes.are changes.weighed_are gains.are are_slabs one other more));
      }
    ]
