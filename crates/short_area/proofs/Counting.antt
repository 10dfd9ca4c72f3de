-- counts of the cells of two labels
use Rattle.std.proofs.Common.{ℕ, suc, ◌+◌, ◌-◌, ◌^◌, ◌<◌, ◌≤◌, ◌≡◌, ◌≢◌, sym, ap, ◌∙◌, subst, List, [], ◌∷◌, ◌++◌, length, inl, inr, ◌⊎◌, ◌↔◌, arith, Result, Ok, Err, IfOk}
use Rattle.geo_core.specs.Plane.{Has, IsInUnion}
use Rattle.geo_core.specs.declared.plane.Cell.{Cell}
use Rattle.geo_core.specs.declared.plane.Labelled.{Labelled}
use Rattle.geo_core.specs.declared.plane.Rect.{Rect}
use Rattle.fault_model.specs.FaultNames.{Tally, none, hit, miss, cells_of}
use Rattle.fault_model.proofs.CellLaws.{Contains-cells_of}
use Rattle.fault_model.proofs.TallyLaws.{Tally-none, Tally-same, Tally-same_all}
use Rattle.union_area.specs.WindowParts.{AreParts}
use Rattle.union_area.proofs.laws.PartLaws.{few_tallied, parts_tally, whole_tally}
use Rattle.short_area.specs.Labels.{TouchesTwoLabels}
use Rattle.short_area.specs.Zones.{AreAlikeIn, AreZonesOf, IsCountOf, IsInTwoLabels}
use Rattle.short_area.specs.inside.ZonesNearCells.{AreSplit, HaveNoThird}
use Rattle.fault_model.proofs.UnionLaws.{union_append}
use Rattle.short_area.proofs.Touching.{two_touched}
use Rattle.short_area.proofs.ZoneLaws.{both_of_two, two_alike}

-- ---- tallies of two properties

-- the tally of both together with that of either is that of the one and that of the other
record BothTally (P Q : Cell → Type 0) (cells : List Cell) (m n k : ℕ) : Type 0 where
  pub both : ℕ
  pub tally : Tally (λ c. P c × Q c) cells both
  pub sum : m + n ≡ k + both

module _ (P Q R : Cell → Type 0) (either : (c : Cell) → R c ↔ (P c ⊎ Q c)) where
  Tally-both : (cells : List Cell) (m n k : ℕ) → Tally P cells m → Tally Q cells n → Tally R cells k → BothTally P Q cells m n k
  Tally-both [] m n k none none none = record { both = 0; tally = none; sum = omega arith }
  Tally-both (c ∷ cs) m n k (hit {n = a} p s) (hit {n = b} q t) (hit {n = d} r u) =
      let rest = Tally-both cs a b d s t u in let e = rest.sum in record { both = suc rest.both; tally = hit (p, q) rest.tally; sum = omega arith }
  Tally-both (c ∷ cs) m n k (hit {n = a} p s) (miss q t) (hit {n = d} r u) =
      let rest = Tally-both cs a n d s t u in let e = rest.sum in record { both = rest.both; tally = miss (λ h. q h.1) rest.tally; sum = omega arith }
  Tally-both (c ∷ cs) m n k (miss p s) (hit {n = b} q t) (hit {n = d} r u) =
      let rest = Tally-both cs m b d s t u in let e = rest.sum in record { both = rest.both; tally = miss (λ h. p h.0) rest.tally; sum = omega arith }
  Tally-both (c ∷ cs) m n k (miss p s) (miss q t) (hit r u) = elim ((either c).0 r) [ inl h ↦ absurd (p h) | inr h ↦ absurd (q h) ]
  Tally-both (c ∷ cs) m n k (hit p s) t (miss r u) = absurd (r ((either c).1 (inl p)))
  Tally-both (c ∷ cs) m n k (miss p s) (hit q t) (miss r u) = absurd (r ((either c).1 (inr q)))
  Tally-both (c ∷ cs) m n k (miss p s) (miss q t) (miss r u) =
      let rest = Tally-both cs m n k s t u in let e = rest.sum in record { both = rest.both; tally = miss (λ h. p h.0) rest.tally; sum = omega arith }

-- where a property holds where two others do, its tally is that of the one and that of the other, less that of either
pub tally_of_both : (P Q R S : Cell → Type 0) (cells : List Cell) (m n k : ℕ) → ((c : Cell) → R c ↔ (P c ⊎ Q c)) → ((c : Cell) → (P c × Q c) ↔ S c)
    → Tally P cells m → Tally Q cells n → Tally R cells k → (k ≤ m + n) × Tally S cells (m + n - k)
tally_of_both P Q R S cells m n k either both s t u =
    let found = Tally-both P Q R either cells m n k s t u in
    let sum = found.sum in
    let same : found.both ≡ m + n - k = omega arith in
    (omega arith, subst (Tally S cells) same (Tally-same_all {P = λ c. P c × Q c} {Q = S} cells found.both both found.tally))

-- ---- counts

pub count_of_none : (zones : List Labelled) (window : Rect) → ((c : Cell) → Has window c → IsInTwoLabels zones c → ⊥) → IsCountOf zones window 0
count_of_none zones window never = record { tally = Tally-none (cells_of window) (λ c h. never c ((Contains-cells_of window c).0 h)); small = omega arith }

pub count_of_all : (zones : List Labelled) (window : Rect) (n : ℕ) → ((c : Cell) → Has window c → IsInTwoLabels zones c) → n ≡ length (cells_of window) → IsCountOf zones window n
count_of_all zones window n all e =
    let whole = subst (Tally (IsInTwoLabels zones) (cells_of window)) (sym e) (whole_tally window all) in
    record { tally = whole; small = few_tallied window n whole }

-- what is counted where the same cells are
pub count_alike : (P : Cell → Type 0) (zones : List Labelled) (window : Rect) (n : ℕ) → ((c : Cell) → Has window c → P c ↔ IsInTwoLabels zones c) → Tally P (cells_of window) n → n < 2 ^ 63
    → IsCountOf zones window n
count_alike P zones window n same tally small = record { tally = Tally-same (cells_of window) n (λ c h. same c ((Contains-cells_of window c).0 h)) tally; small = small }

pub count_by_zones : {E : Type 0} (pieces zones : List Labelled) (radius : ℕ) (window : Rect) (result : Result ℕ E) → 1 ≤ radius → AreZonesOf pieces radius window zones
    → IfOk result (λ (n : ℕ). IsCountOf zones window n)
    → IfOk result (λ (n : ℕ). Tally (TouchesTwoLabels pieces radius) (cells_of window) n)
count_by_zones pieces zones radius window (Ok n) positive same count = Tally-same (cells_of window) n
    (λ c h. two_touched radius positive c pieces zones window same ((Contains-cells_of window c).0 h)) count.tally
count_by_zones pieces zones radius window (Err e) positive same count = tt

pub count_small : {E : Type 0} (zones : List Labelled) (window : Rect) (result : Result ℕ E) → IfOk result (λ (n : ℕ). IsCountOf zones window n) → IfOk result (λ (n : ℕ). n < 2 ^ 63)
count_small zones window (Ok n) count = count.small
count_small zones window (Err e) count = tt

-- the counts of two parts add up
pub count_of_parts : (zones before behind : List Labelled) (window first second : Rect) (m n : ℕ) → AreParts window first second → AreAlikeIn first zones before
    → AreAlikeIn second zones behind
    → IsCountOf before first m → IsCountOf behind second n → IsCountOf zones window (m + n)
count_of_parts zones before behind window first second m n parts here there one other =
    let some = Tally-same (cells_of first) m (λ c h. two_alike c before zones (λ label. here c ((Contains-cells_of first c).0 h) label)) one.tally in
    let rest = Tally-same (cells_of second) n (λ c h. two_alike c behind zones (λ label. there c ((Contains-cells_of second c).0 h) label)) other.tally in
    let sum = parts_tally window first second parts m n some rest in
    record { tally = sum; small = few_tallied window (m + n) sum }

-- of two labels: the cells of the one and those of the other, less those of either
pub count_apart : (zones : List Labelled) (window : Rect) (one other : ℕ) (own others all : List Rect) (m n k : ℕ) → HaveNoThird zones one other → AreSplit zones one own others
    → ((c : Cell) → IsInUnion all c ↔ (IsInUnion own c ⊎ IsInUnion others c))
    → Tally (IsInUnion own) (cells_of window) m → Tally (IsInUnion others) (cells_of window) n → Tally (IsInUnion all) (cells_of window) k → (k ≤ m + n) × IsCountOf zones window (m + n - k)
count_apart zones window one other own others all m n k alone split either s t u =
    let tallied = tally_of_both (IsInUnion own) (IsInUnion others) (IsInUnion all) (IsInTwoLabels zones) (cells_of window) m n k either (λ c.
    let two = both_of_two c zones one other alone in
    (λ h. two.0 ((split.own_cells c).0 h.0, (split.other_cells c).0 h.1), λ h. let p = two.1 h in ((split.own_cells c).1 p.0, (split.other_cells c).1 p.1))) s t u in
    (tallied.0, record { tally = tallied.1; small = few_tallied window (m + n - k) tallied.1 })

-- the same, where the lists are known by other names
pub count_by_union : (zones : List Labelled) (window : Rect) (one other : ℕ) (own others first second third joined all : List Rect) (m n k : ℕ) → HaveNoThird zones one other
    → AreSplit zones one own others
    → first ≡ own → second ≡ others → third ≡ others → joined ≡ own ++ third → all ≡ joined
    → Tally (IsInUnion first) (cells_of window) m → Tally (IsInUnion second) (cells_of window) n → Tally (IsInUnion all) (cells_of window) k → (k ≤ m + n) × IsCountOf zones window (m + n - k)
count_by_union zones window one other own others first second third joined all m n k alone split is_own is_others also_others is_joined is_all s t u =
    let whole : all ≡ own ++ others = is_all ∙ is_joined ∙ ap (λ (xs : List Rect). own ++ xs) also_others in
    count_apart zones window one other own others all m n k alone split
    (λ c. subst (λ (xs : List Rect). IsInUnion xs c ↔ (IsInUnion own c ⊎ IsInUnion others c)) (sym whole) (union_append c own others))
    (subst (λ (xs : List Rect). Tally (IsInUnion xs) (cells_of window) m) is_own s) (subst (λ (xs : List Rect). Tally (IsInUnion xs) (cells_of window) n) is_others t) u
