-- rectangles without common cells have as many cells as the numbers of their cells add up to
use Rattle.std.proofs.Common.{suc, ◌+◌, sym, subst, inl, inr, ◌⊎◌, arith, List, [], ◌∷◌, length, Option, Some, None, Contains, ◌↔◌}
use Rattle.lists.proofs.Containing.{Contains-head, Contains-none, Contains-tail}
use Rattle.lists.proofs.Differing.{AllPairs-tail}
use Rattle.lists.proofs.Words.{get_or_from_slice_get, slice_get_within, sum_by-cons}
use Rattle.geo_core.specs.Plane.{Has, IsInUnion, Overlap}
use Rattle.geo_core.specs.declared.plane.Cell.{Cell}
use Rattle.geo_core.specs.declared.plane.Rect.{Rect}
use Rattle.fault_model.specs.FaultNames.{Tally, cells_of, cells_of_window, none}
use Rattle.fault_model.proofs.CellLaws.{Contains-cells_of}
use Rattle.fault_model.proofs.PartTallies.{Tally-either, tally_of_part}
use Rattle.fault_model.proofs.TallyLaws.{Tally-none, Tally-same, Tally-same_all}
use Rattle.fault_model.proofs.UnionLaws.{corner_of, in_union, union_append, union_none, union_one, union_within}
use Rattle.skyline_runs.specs.Runs.{AreApart}
use Rattle.union_area.proofs.laws.PartLaws.{whole_tally}
use Rattle.layout_regions.specs.Regions.{cell_count}

module _ (rect : Rect) (rects : List Rect) where
  -- no cell of the first rectangle lies in another
  first_apart : AreApart (rect ∷ rects) → (c : Cell) → Has rect c → IsInUnion rects c → ⊥
  first_apart apart c has u =
      let small = slice_get_within rects u.number u.rect u.at in
      apart 0 (suc u.number) u.rect (omega arith) (omega arith)
      (c, has, subst (λ (other : Rect). Has other c) (sym (get_or_from_slice_get rects u.number u.rect u.rect u.at)) u.has)

  first_or_other : (c : Cell) → ((Has rect c × Has rect c) ⊎ IsInUnion rects c) ↔ IsInUnion (rect ∷ rects) c
  first_or_other c =
      let both = union_append c (rect ∷ []) rects in
      let one = union_one c rect in (
        λ h. both.1 (elim h [ inl has ↦ inl (one.1 has.0) | inr u ↦ inr u ]),
        λ u. elim (both.0 u) [ inl v ↦ inl (one.0 v, one.0 v) | inr v ↦ inr v ],
      )

module _ (window : Rect) where
  tally_of_rects : (rects : List Rect) → AreApart rects → ((c : Cell) → IsInUnion rects c → Has window c) → Tally (IsInUnion rects) (cells_of window) (cell_count rects)
  tally_of_rects [] apart within = Tally-none (cells_of window) (λ c listed u. union_none c u)
  tally_of_rects (rect ∷ rects) apart within =
      let count = length (cells_of rect) in
      let first_within = λ (c : Cell) (has : Has rect c). within c (in_union (rect ∷ rects) rect c (Contains-head rect rects) has) in
      let first = tally_of_part {P = Has rect} window rect count first_within (whole_tally {P = Has rect} rect (λ c has. has)) in
      let others = tally_of_rects rects (AllPairs-tail (λ a b. Overlap a b → ⊥) rect rects apart)
      (λ c u. within c (union_within rects (rect ∷ rects) c (Contains-tail rect rects) u)) in
      let both = Tally-either (cells_of window) count (cell_count rects) (λ c has u. first_apart rect rects apart c has.0 u) first others in
      subst (Tally (IsInUnion (rect ∷ rects)) (cells_of window)) (sym (sum_by-cons (λ (one : Rect). length (cells_of one)) rect rects))
      (Tally-same_all (cells_of window) (count + cell_count rects) (first_or_other rect rects) both)

-- so where they have the cells of a window that have a property, they have as many as these are
pub tally_is_count : {P : Cell → Type 0} (window : Option Rect) (rects : List Rect) → AreApart rects
    → ((c : Cell) → IsInUnion rects c ↔ (Contains (cells_of_window window) c × P c)) → Tally P (cells_of_window window) (cell_count rects)
tally_is_count None [] apart cells = none
tally_is_count None (rect ∷ rects) apart cells =
    let corner = corner_of rect in absurd (Contains-none ((cells corner.0).0 (in_union (rect ∷ rects) rect corner.0 (Contains-head rect rects) corner.1)).0)
tally_is_count (Some window) rects apart cells =
    Tally-same (cells_of window) (cell_count rects) (λ c listed. (λ u. ((cells c).0 u).1, λ p. (cells c).1 (listed, p)))
    (tally_of_rects window rects apart (λ c u. (Contains-cells_of window c).0 ((cells c).0 u).0))
