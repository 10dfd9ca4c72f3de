-- rectangles that are clipped to a part of a window
use Rattle.std.proofs.Common.{ℕ, ◌+◌, ◌<◌, ◌≤◌, ◌≡◌, ◌∙◌, refl, subst, sym, arith, List, [], ◌∷◌, ◌++◌, length, take, take_all, get_or, inl, inr, ◌↔◌, ◌⊎◌}
use Rattle.lists.proofs.Words.{cases_Bool, false≢true, sum_by-append, sum_by-cons}
use Rattle.lists.proofs.Reading.{taken_more}
use Rattle.geo_core.specs.Plane.{Has, IsInUnion}
use Rattle.geo_core.specs.declared.plane.Cell.{Cell}
use Rattle.geo_core.specs.declared.plane.Rect.{Rect}
use Rattle.skyline_runs.specs.Depths.{depth_of, has_cell}
use Rattle.skyline_runs.specs.Runs.{AreApart, IsInTwo}
use Rattle.skyline_runs.proofs.laws.DepthLaws.{depth_from_union, depth_of_two, two_from_depth, union_from_depth}
use Rattle.skyline_runs.proofs.laws.DepthLaws.{has_from, has_not, has_so, weight, weight_not, weight_so}
use Rattle.joined_rects.proofs.laws.ApartLaws.{apart_none, two_apart}
use Rattle.union_area.specs.PartRects.{AreClipped, AreRectsOf}

-- ---- how deep a cell lies in a list with one rectangle more

module _ (c : Cell) where
  depth_push : (rects : List Rect) (rect : Rect) → depth_of (rects ++ rect ∷ []) c ≡ depth_of rects c + weight c rect
  depth_push rects rect = omega (arith, sum_by-append (weight c) rects (rect ∷ []), sum_by-cons (weight c) rect [])

  weight_alike : (one other : Rect) → Has one c ↔ Has other c → weight c one ≡ weight c other
  weight_alike one other same = elim (cases_Bool (has_cell c one)) [
    | inl t ↦ let h = has_from c one t in weight_so c one h ∙ sym (weight_so c other (same.0 h))
    | inr f ↦ weight_not c one f ∙ sym (weight_not c other (has_not c other (λ h. false≢true (sym f ∙ has_so c one (same.1 h)))))
  ]

  weight_none : (rect : Rect) → (Has rect c → ⊥) → weight c rect ≡ 0
  weight_none rect n = weight_not c rect (has_not c rect n)

-- ---- rectangle by rectangle

module _ (rects : List Rect) (part : Rect) where
  -- what the first rectangles of a list have in common with the part
  abbrev pub ClippedSoFar : ℕ → List Rect → Type 0
  ClippedSoFar k inside = AreClipped (take k rects) part inside

  pub clipped_none : ClippedSoFar 0 []
  clipped_none = record { within = λ c h. refl; outside = λ c n. refl }

  module _ (k : ℕ) (inside : List Rect) (so_far : ClippedSoFar k inside) (rect : Rect) (small : k < length rects)
      (is : rect ≡ get_or rects k rect) where
    depth_more : (c : Cell) → depth_of (take (k + 1) rects) c ≡ depth_of (take k rects) c + weight c rect
    depth_more c = subst (λ (xs : List Rect). depth_of xs c ≡ depth_of (take k rects) c + weight c rect)
        (sym (taken_more rects k rect small is)) (depth_push c (take k rects) rect)

    pub clipped_more : (piece : Rect) → ((c : Cell) → Has piece c ↔ (Has rect c × Has part c)) → ClippedSoFar (k + 1) (inside ++ piece ∷ [])
    clipped_more piece same = record {
      within = λ c h.
          let old = so_far.within c h in
          let one = weight_alike c piece rect (λ p. ((same c).0 p).0, λ r. (same c).1 (r, h)) in
          let more = depth_more c in
          let push = depth_push c inside piece in omega arith;
      outside = λ c n.
          let old = so_far.outside c n in
          let none = weight_none c piece (λ p. n ((same c).0 p).1) in
          let push = depth_push c inside piece in omega arith;
    }

    pub clipped_past : ((c : Cell) → Has rect c → Has part c → ⊥) → ClippedSoFar (k + 1) inside
    clipped_past far = record {
      within = λ c h. let old = so_far.within c h in let none = weight_none c rect (λ r. far c r h) in let more = depth_more c in omega arith;
      outside = so_far.outside;
    }

  pub clipped_all : (k : ℕ) (inside : List Rect) → length rects ≤ k → ClippedSoFar k inside → AreClipped rects part inside
  clipped_all k inside past so_far = subst (λ (rs : List Rect). AreClipped rs part inside) (take_all k rects past) so_far

-- ---- what clipped rectangles say

module _ (rects : List Rect) (part : Rect) (inside : List Rect) (clipped : AreClipped rects part inside) where
  in_part_or_not : (c : Cell) → Has part c ⊎ (depth_of inside c ≡ 0)
  in_part_or_not c = elim (cases_Bool (has_cell c part)) [
    | inl t ↦ inl (has_from c part t)
    | inr f ↦ inr (clipped.outside c (λ h. false≢true (sym f ∙ has_so c part h)))
  ]

  -- as many as are joined afterwards
  pub clipped_joined : (joined : List Rect) → ((c : Cell) → depth_of joined c ≡ depth_of inside c) → AreClipped rects part joined
  clipped_joined joined same = record { within = λ c h. same c ∙ clipped.within c h; outside = λ c n. same c ∙ clipped.outside c n }

  pub clipped_two : (c : Cell) → Has part c → IsInTwo inside c ↔ IsInTwo rects c
  clipped_two c h = let same = clipped.within c h in (
    λ t. let deep = depth_of_two c inside t in two_from_depth c rects (omega arith),
    λ t. let deep = depth_of_two c rects t in two_from_depth c inside (omega arith),
  )

  pub clipped_cells : (c : Cell) → IsInUnion inside c ↔ (IsInUnion rects c × Has part c)
  clipped_cells c = (
    λ u.
        let deep = depth_from_union c inside u.number u.rect u.at u.has in
        elim (in_part_or_not c) [
          | inl h ↦ let same = clipped.within c h in (union_from_depth c rects (omega arith), h)
          | inr e ↦ absurd (omega arith)
        ],
    λ h.
        let same = clipped.within c h.1 in
        let u = h.0 in
        let deep = depth_from_union c rects u.number u.rect u.at u.has in union_from_depth c inside (omega arith),
  )

  clipped_apart : AreApart rects → AreApart inside
  clipped_apart apart = apart_none inside (λ c t. elim (in_part_or_not c) [
    | inl h ↦ two_apart rects apart c ((clipped_two c h).0 t)
    | inr e ↦ let deep = depth_of_two c inside t in absurd (omega arith)
  ])

  -- rectangles without common cells that have the wanted cells of the part
  pub rects_clipped : (wanted : Cell → Type 0) → AreApart rects
      → ((c : Cell) → Has part c → IsInUnion rects c ↔ wanted c) → AreRectsOf wanted part inside
  rects_clipped wanted apart same = record {
    cells = λ c. let both = clipped_cells c in (
      λ u. let h = both.0 u in ((same c h.1).0 h.0, h.1),
      λ h. both.1 ((same c h.1).1 h.0, h.1),
    );
    apart = clipped_apart apart;
  }
