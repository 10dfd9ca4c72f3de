-- other rectangles that have the same cells under each label
use Rattle.std.proofs.Common.{ℕ, ◌+◌, ◌<◌, ◌≤◌, ◌≡◌, sym, ap, ◌∙◌, subst, List, [], ◌++◌, arith, inl, inr, ◌⊎◌, ◌↔◌, length, get_or, map, take, drop, All, Contains, Some, slice_get, take_all}
use Rattle.lists.proofs.Words.{IsPermutation, IsPermutation-sym, Contains-permutation, All-contains, Contains-append_cases, Contains-append_left, Contains-append_right, leb_tells, get_or_from_slice_get, length-drop}
use Rattle.std.proofs.Math.Seq.{take-add}
use Rattle.skyline_runs.specs.Runs.{HaveSameCells}
use Rattle.geo_core.specs.Plane.{Has}
use Rattle.geo_core.specs.declared.plane.Cell.{Cell}
use Rattle.geo_core.specs.declared.plane.Labelled.{Labelled}
use Rattle.geo_core.specs.declared.plane.Rect.{Rect}
use Rattle.fault_model.proofs.AlikeLaws.{IsOn-alike}
use Rattle.fault_model.proofs.UnionLaws.{in_union, among_union}
use Rattle.paths.proofs.PathLaws.{within}
use Rattle.lists.proofs.Mapping.{Contains-map, Contains-map_from}
use Rattle.net_extract.specs.inside.LabelledCells.{HasLabelled, HaveSameLabelled, ArePartsIn}
use Rattle.net_extract.specs.inside.Numbering.{AreIslandsFrom}
use Rattle.net_extract.proofs.IslandLaws.{rect_of}

abbrev pub with_label : ℕ → Rect → Labelled
with_label label rect = record { rect = rect; label = label }

-- the order does not matter
pub same_in_order : (xs ys : List Labelled) → IsPermutation xs ys → HaveSameLabelled xs ys
same_in_order xs ys moved i c = (
  λ h. record { labelled = h.labelled; among = Contains-permutation ys xs h.labelled (IsPermutation-sym xs ys moved) h.among; carries = h.carries; has = h.has },
  λ h. record { labelled = h.labelled; among = Contains-permutation xs ys h.labelled moved h.among; carries = h.carries; has = h.has },
)

pub same_after_same : (xs ys zs : List Labelled) → HaveSameLabelled xs ys → HaveSameLabelled ys zs → HaveSameLabelled xs zs
same_after_same xs ys zs one other i c = (λ h. (one i c).0 ((other i c).0 h), λ h. (other i c).1 ((one i c).1 h))

-- two lists, one after the other
pub labelled_in_both : (xs ys : List Labelled) (i : ℕ) (c : Cell) → HasLabelled (xs ++ ys) i c ↔ (HasLabelled xs i c ⊎ HasLabelled ys i c)
labelled_in_both xs ys i c = (
  λ h. elim (Contains-append_cases xs ys h.labelled h.among) [
    | inl a ↦ inl (record { labelled = h.labelled; among = a; carries = h.carries; has = h.has })
    | inr a ↦ inr (record { labelled = h.labelled; among = a; carries = h.carries; has = h.has })
  ],
  λ e. elim e [
    | inl h ↦ record { labelled = h.labelled; among = Contains-append_left xs ys h.labelled h.among; carries = h.carries; has = h.has }
    | inr h ↦ record { labelled = h.labelled; among = Contains-append_right xs ys h.labelled h.among; carries = h.carries; has = h.has }
  ],
)

-- rectangles of one label, and others with the same cells
pub merged_alike : (part : List Labelled) (label : ℕ) (rects merged : List Rect) → rects ≡ map rect_of part → All (λ (one : Labelled). one.label ≡ label) part → HaveSameCells rects merged
    → HaveSameLabelled part (map (with_label label) merged)
merged_alike part label rects merged e all same i c = (
  λ h.
      let found = Contains-map_from (with_label label) merged h.labelled h.among in
      let v = (same c).0 (in_union merged found.0 c found.1 (subst (λ (l : Labelled). Has l.rect c) (sym found.2) h.has)) in
      let from = Contains-map_from rect_of part v.rect (subst (λ rs. Contains rs v.rect) e (among_union rects c v)) in
      record {
        labelled = from.0;
        among = from.1;
        carries = All-contains (λ (one : Labelled). one.label ≡ label) part from.0 all from.1 ∙ ap (λ (l : Labelled). l.label) found.2 ∙ h.carries;
        has = subst (λ r. Has r c) (sym from.2) v.has;
      },
  λ h.
      let listed = subst (λ rs. Contains rs h.labelled.rect) (sym e) (Contains-map rect_of part h.labelled h.among) in
      let v = (same c).1 (in_union rects h.labelled.rect c listed h.has) in
      record {
        labelled = with_label label v.rect;
        among = Contains-map (with_label label) merged v.rect (among_union merged c v);
        carries = sym (All-contains (λ (one : Labelled). one.label ≡ label) part h.labelled all h.among) ∙ h.carries;
        has = v.has;
      },
)

-- the cells of the one list and of a part more
abbrev pub HaveGained : List Labelled → List Labelled → List Labelled → Type 0
HaveGained part old new = (i : ℕ) (c : Cell) → HasLabelled new i c ↔ (HasLabelled old i c ⊎ HasLabelled part i c)

pub gained : (part more old new : List Labelled) → HaveSameLabelled part more → new ≡ old ++ more → HaveGained part old new
gained part more old new same e i c =
    let both = labelled_in_both old more i c in (
      λ h. elim (both.0 (subst (λ xs. HasLabelled xs i c) e h)) [ inl a ↦ inl a | inr a ↦ inr ((same i c).0 a) ],
      λ h. subst (λ xs. HasLabelled xs i c) (sym e) (both.1 (elim h [ inl a ↦ inl a | inr a ↦ inr ((same i c).1 a) ])),
    )

-- ---- label by label

-- what stands in place of the first so many
pub record IsSlimTo (rects : List Labelled) (start : ℕ) (slim : List Labelled) : Type 0 where
  pub within : start ≤ length rects
  pub cells : HaveSameLabelled (take start rects) slim

pub slim_more : (rects : List Labelled) (start count : ℕ) (old new : List Labelled) → IsSlimTo rects start old → count ≤ length (drop start rects) → HaveGained (take count (drop start rects)) old new
    → IsSlimTo rects (start + count) new
slim_more rects start count old new is small more = record {
  within = let w = is.within in omega (arith, length-drop start rects);
  cells = λ i c.
      let both = labelled_in_both (take start rects) (take count (drop start rects)) i c in
      let taken = take-add start count rects in (
        λ h. subst (λ xs. HasLabelled xs i c) (sym taken) (both.1 (elim ((more i c).0 h) [ inl a ↦ inl ((is.cells i c).0 a) | inr a ↦ inr a ])),
        λ h. (more i c).1 (elim (both.0 (subst (λ xs. HasLabelled xs i c) taken h)) [ inl a ↦ inl ((is.cells i c).1 a) | inr a ↦ inr a ]),
      );
}

-- what has another label than the first is not the first
pub not_the_first : (xs : List Labelled) (k : ℕ) (first item : Labelled) → slice_get xs 0 ≡ Some first → item ≡ get_or xs k item → (item.label ≡ first.label → ⊥) → 0 < k
not_the_first xs k first item at is other = elim (leb_tells 1 k) [
  | inl h ↦ h.1
  | inr h ↦
      let none : k ≡ 0 = let f = h.1 in omega arith in
      absurd (other (ap (λ (l : Labelled). l.label) (is ∙ ap (λ n. get_or xs n item) none ∙ get_or_from_slice_get xs 0 first item at)))
]

-- ---- islands and parts by other rectangles

pub islands_slim : (rects : List Rect) (low high : ℕ) (islands slim : List Labelled) → AreIslandsFrom rects low high islands → HaveSameLabelled islands slim → AreIslandsFrom rects low high slim
islands_slim rects low high islands slim are same = record {
  covered = λ c. (
    λ h. (are.covered c).0 (h.0, (same h.0 c).0 h.1),
    λ v. let h = (are.covered c).1 v in (h.0, (same h.0 c).1 h.1),
  );
  joined = λ i k p q p_on q_on. are.joined i k p q (p_on.0, p_on.1, (same i p_on.0).0 p_on.2) (q_on.0, q_on.1, (same k q_on.0).0 q_on.2);
  within = λ i c h. are.within i c ((same i c).0 h);
}

-- the islands of rectangles are those of others that have the same cells
pub islands_alike : (rects merged : List Rect) (low high most : ℕ) (islands : List Labelled) → HaveSameCells rects merged → high ≤ most → AreIslandsFrom merged low high islands
    → AreIslandsFrom rects low most islands
islands_alike rects merged low high most islands same few are = record {
  covered = λ c. (λ h. (same c).0 ((are.covered c).0 h), λ u. (are.covered c).1 ((same c).1 u));
  joined = λ i k p q p_on q_on.
      let told = are.joined i k p q p_on q_on in
      (λ e. within (IsOn-alike (λ c. (same c).0)) (told.0 e), λ walk. told.1 (within (IsOn-alike (λ c. (same c).1)) walk));
  within = λ i c h. let bounds = are.within i c h in (bounds.0, omega arith);
}

pub parts_slim : (cut : List Rect) (rects parts slim : List Labelled) → ArePartsIn cut rects parts → HaveSameLabelled parts slim → ArePartsIn cut rects slim
parts_slim cut rects parts slim are same i c = (λ h. (are i c).0 ((same i c).0 h), λ both. (same i c).1 ((are i c).1 both))

pub slim_none : (rects : List Labelled) → IsSlimTo rects 0 []
slim_none rects = record { within = omega arith; cells = λ i c. (λ h. h, λ h. h) }

pub slim_all : (rects : List Labelled) (start : ℕ) (slim : List Labelled) → length rects ≤ start → IsSlimTo rects start slim → HaveSameLabelled rects slim
slim_all rects start slim past is = subst (λ xs. HaveSameLabelled xs slim) (take_all start rects past) is.cells
