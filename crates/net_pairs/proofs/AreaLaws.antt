-- cells of both labels: in zones and runs, in parts of a window, and where defects touch pieces
use Rattle.std.proofs.Common.{ℕ, ◌+◌, ◌%◌, ◌^◌, ◌<◌, ◌≡◌, ap, refl, subst, List, [], ◌↔◌, arith, Contains, ◌∷◌, ◌++◌, inl, inr, ◌⊎◌, sym, ◌∙◌}
use Rattle.lists.proofs.Words.{All-contains}
use Rattle.geo_core.specs.declared.plane.Cell.{Cell}
use Rattle.geo_core.specs.declared.plane.Labelled.{Labelled}
use Rattle.geo_core.specs.declared.plane.Rect.{Rect}
use Rattle.fault_model.specs.FaultNames.{Tally, cells_of}
use Rattle.fault_model.proofs.CellLaws.{Contains-cells_of}
use Rattle.fault_model.proofs.TallyLaws.{Tally-same, Tally-same_all, Tally-some, Tally-unique}
use Rattle.union_area.specs.WindowParts.{AreParts}
use Rattle.union_area.proofs.laws.PartLaws.{few_tallied, parts_tally}
use Rattle.std.proofs.Math.Nat.{mod-eq_of_lt}
use Rattle.short_area.specs.Zones.{AreAlikeIn, AreZonesOf, IsCountOf, IsInLabel, IsInTwoLabels}
use Rattle.net_pairs.specs.Pairs.{IsPairArea, TouchesBoth}
use Rattle.net_pairs.specs.inside.PairGains.{GainsCells, IsInBoth}
use Rattle.net_pairs.specs.inside.RunsOfLabels.{AreRunsOf}
use Rattle.net_pairs.specs.inside.PairSteps.{HaveOneLabel, HaveTwoLabels}
use Rattle.net_pairs.specs.inside.Sums.{cells_for}
use Rattle.net_pairs.specs.inside.SameRests.{HaveOneRest}
use Rattle.net_pairs.proofs.RestLaws.{rest_chained, rest_equal, rest_trans}
use Rattle.net_pairs.proofs.GainLaws.{gains_none, gains_pair, gains_same}
use Rattle.net_pairs.proofs.SumLaws.{Item}

-- the zones of one list have both labels at a cell where those of another do that has the same labels there
both_alike : (xs ys : List Labelled) (one other : ℕ) (c : Cell) → ((label : ℕ) → IsInLabel xs label c ↔ IsInLabel ys label c) → IsInBoth xs one other c ↔ IsInBoth ys one other c
both_alike xs ys one other c same = (
  λ h. record { lesser = h.lesser; in_one = (same one).0 h.in_one; in_other = (same other).0 h.in_other },
  λ h. record { lesser = h.lesser; in_one = (same one).1 h.in_one; in_other = (same other).1 h.in_other },
)

pub gains_by_runs : (zones runs : List Labelled) (window : Rect) (old new : List Item) → AreRunsOf zones runs → GainsCells (IsInBoth runs) window old new → GainsCells (IsInBoth zones) window old new
gains_by_runs zones runs window old new are = gains_same (IsInBoth runs) (IsInBoth zones) window old new (λ one other c at. both_alike runs zones one other c (are.cells c))

pub gains_of_one : (zones : List Labelled) (window : Rect) (old new : List Item) → HaveOneLabel zones → new ≡ old → GainsCells (IsInBoth zones) window old new
gains_of_one zones window old new alone e = gains_none (IsInBoth zones) window old (λ one other c at h.
    let same = alone h.in_one.zone h.in_other.zone h.in_one.among h.in_other.among in
    let a = h.in_one.labelled in let b = h.in_other.labelled in let l = h.lesser in absurd (omega arith)) new e

-- two labels alone
module _ (zones : List Labelled) (one other : ℕ) (two : HaveTwoLabels zones one other) where
  label_is : (label : ℕ) (c : Cell) → IsInLabel zones label c → (label ≡ one) ⊎ (label ≡ other)
  label_is label c h = elim (All-contains (λ (zone : Labelled). (zone.label ≡ one) ⊎ (zone.label ≡ other)) zones h.zone two.alone h.among) [
    | inl e ↦ inl (sym h.labelled ∙ e)
    | inr e ↦ inr (sym h.labelled ∙ e)
  ]

  two_in_both : (c : Cell) → IsInTwoLabels zones c → IsInBoth zones one other c
  two_in_both c t = elim (label_is t.one c t.in_one) [
    | inl e ↦ elim (label_is t.other c t.in_other) [
      | inl f ↦ absurd (t.different (e ∙ sym f))
      | inr f ↦ record { lesser = two.lesser; in_one = subst (λ (l : ℕ). IsInLabel zones l c) e t.in_one; in_other = subst (λ (l : ℕ). IsInLabel zones l c) f t.in_other }
    ]
    | inr e ↦ elim (label_is t.other c t.in_other) [
      | inl f ↦ record { lesser = two.lesser; in_one = subst (λ (l : ℕ). IsInLabel zones l c) f t.in_other; in_other = subst (λ (l : ℕ). IsInLabel zones l c) e t.in_one }
      | inr f ↦ absurd (t.different (e ∙ sym f))
    ]
  ]

  both_in_two : (c : Cell) → IsInBoth zones one other c → IsInTwoLabels zones c
  both_in_two c h = record { one = one; other = other; in_one = h.in_one; in_other = h.in_other; different = λ e. let l = h.lesser in absurd (omega arith) }

  -- no other pair has a cell
  these_alone : (a b : ℕ) (c : Cell) → IsInBoth zones a b c → (one ≡ a) × (other ≡ b)
  these_alone a b c h =
      let l = h.lesser in let m = two.lesser in
      elim (label_is a c h.in_one) [
        | inl e ↦ elim (label_is b c h.in_other) [ inl f ↦ absurd (omega arith) | inr f ↦ (sym e, sym f) ]
        | inr e ↦ elim (label_is b c h.in_other) [ inl f ↦ absurd (omega arith) | inr f ↦ absurd (omega arith) ]
      ]

  pub gains_of_two : (window : Rect) (cells : ℕ) → IsCountOf zones window cells → (old new : List Item) → new ≡ old ++ (one, other, cells) ∷ [] → GainsCells (IsInBoth zones) window old new
  gains_of_two window cells count old new = gains_pair (IsInBoth zones) window old new one other cells
      (Tally-same_all (cells_of window) cells (λ c. (two_in_both c, both_in_two c)) count.tally) these_alone

-- ---- parts of a window

pub gains_of_parts : (zones before behind : List Labelled) (window first second : Rect) (old mid new : List Item) → AreParts window first second → AreAlikeIn first zones before → AreAlikeIn second zones behind
    → GainsCells (IsInBoth before) first old mid → GainsCells (IsInBoth behind) second mid new
    → GainsCells (IsInBoth zones) window old new
gains_of_parts zones before behind window first second old mid new parts here there some rest one other =
    let g = gains_same (IsInBoth before) (IsInBoth zones) first old mid (λ one other c at. both_alike before zones one other c (here c at)) some one other in
    let h = gains_same (IsInBoth behind) (IsInBoth zones) second mid new (λ one other c at. both_alike behind zones one other c (there c at)) rest one other in
    record { cells = g.cells + h.cells; tally = parts_tally window first second parts g.cells h.cells g.tally h.tally; sum = rest_chained (cells_for one other old) g.cells h.cells refl g.sum h.sum }

-- ---- all of the window

module _ (pieces zones : List Labelled) (radius : ℕ) (window : Rect) (are : AreZonesOf pieces radius window zones) where
  touched : (one other : ℕ) → one < other → (c : Cell) → Contains (cells_of window) c → IsInBoth zones one other c ↔ TouchesBoth pieces radius one other c
  touched one other less c listed = let same = are c ((Contains-cells_of window c).0 listed) in (
    λ h. record { touches_one = (same one).0 h.in_one; touches_other = (same other).0 h.in_other },
    λ h. record { lesser = less; in_one = (same one).1 h.touches_one; in_other = (same other).1 h.touches_other },
  )

  back : (one other : ℕ) → one < other → (c : Cell) → Contains (cells_of window) c → TouchesBoth pieces radius one other c ↔ IsInBoth zones one other c
  back one other less c listed = let same = touched one other less c listed in (same.1, same.0)

  -- what is listed of a pair is its area
  pub listed_area : (old items : List Item) → old ≡ [] → GainsCells (IsInBoth zones) window old items → (one other cells : ℕ)
      → ((0 < cells) × (cells_for one other items % 2 ^ 64 ≡ cells)) ↔ IsPairArea pieces radius window one other cells
  listed_area old items e gains one other cells =
      let g = gains one other in
      let s : cells_for one other items % 2 ^ 64 ≡ g.cells = begun one other old items e g.cells g.tally g.sum in (
        λ h.
            let is : g.cells ≡ cells = sym s ∙ h.1 in
            let tally = subst (Tally (IsInBoth zones one other) (cells_of window)) is g.tally in
            let some = Tally-some (cells_of window) cells (let k = h.0 in omega arith) tally in
            record { lesser = some.2.lesser; some = h.0; tally = Tally-same (cells_of window) cells (touched one other some.2.lesser) tally },
        λ h.
            let is = Tally-unique (cells_of window) g.cells cells g.tally (Tally-same (cells_of window) cells (back one other h.lesser) h.tally) in
            (h.some, s ∙ is),
      )
    where
      begun : (one other : ℕ) (old items : List Item) → old ≡ [] → (n : ℕ) → Tally (IsInBoth zones one other) (cells_of window) n → HaveOneRest (cells_for one other items) (cells_for one other old + n)
          → cells_for one other items % 2 ^ 64 ≡ n
      begun one other old items e n tally alike =
          let few = few_tallied window n tally in
          let f : cells_for one other old ≡ 0 = ap (cells_for one other) e in
          let is : cells_for one other old + n ≡ n = omega (arith, f) in
          (rest_trans alike (rest_equal is)).rest ∙ mod-eq_of_lt (let l : n < 2 ^ 64 = omega (arith, few) in l)
