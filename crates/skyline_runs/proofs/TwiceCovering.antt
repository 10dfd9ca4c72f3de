-- two skylines: the one has the cells of the rectangles so far, the other one those in two of them
use Rattle.std.proofs.Common.{List, get_or, inl, inr, length, subst, take, take_all, ℕ, ◌+◌, ◌<◌, ◌≡◌, ◌≤◌, ◌⊎◌, Some, slice_get, ℤ, ◌↔◌}
use Rattle.lists.proofs.Words.{IsPermutation}
use Rattle.geo_core.specs.Plane.{Has, IsInUnion}
use Rattle.geo_core.specs.declared.plane.Cell.{Cell}
use Rattle.geo_core.specs.declared.plane.Rect.{Rect}
use Rattle.skyline_runs.specs.Runs.{AreByRow, HaveCellsOfTwo, HaveSameCells, IsInTwo}
use Rattle.skyline_runs.specs.inside.Skylines.{IsBelow, IsSkyline, IsUnder}
use Rattle.skyline_runs.specs.declared.skyline.Skyline.{Skyline}
use Rattle.skyline_runs.proofs.Covering.{IsUnionTo, below_next, union_all, union_next}
use Rattle.skyline_runs.proofs.TwiceSteps.{two_more, two_permutation}
use Rattle.skyline_runs.proofs.laws.DepthLaws.{two_none}
use Rattle.fault_model.proofs.UnionLaws.{union_permutation}

pub record IsTwiceTo (once twice : Skyline) (rects : List Rect) (i : ℕ) : Type 0 where
  pub union : IsUnionTo once rects i
  pub sound : IsSkyline twice
  pub cells : (c : Cell) → IsUnder twice c ↔ IsInTwo (take i rects) c
  pub below : (k : ℕ) (rect : Rect) → i ≤ k → slice_get rects k ≡ Some rect → IsBelow rect.y0 twice

pub twice_begun : (once twice : Skyline) (rects : List Rect) → IsUnionTo once rects 0 → IsSkyline twice → ((row : ℤ) → IsBelow row twice) → ((c : Cell) → IsUnder twice c → ⊥)
    → IsTwiceTo once twice rects 0
twice_begun once twice rects union sound below none = record {
  union = union;
  sound = sound;
  cells = λ c. (λ u. absurd (none c u), λ t. absurd (two_none c t));
  below = λ k rect up at. below rect.y0;
}

-- the second skyline gains what the rectangle has in common with the first one
pub gains_common : (once twice new : Skyline) (rect : Rect) (parts : List Rect) → ((c : Cell) → IsInUnion parts c ↔ (IsUnder once c × Has rect c))
    → ((c : Cell) → IsUnder new c ↔ (IsUnder twice c ⊎ IsInUnion parts c)) → (c : Cell)
    → IsUnder new c ↔ (IsUnder twice c ⊎ (IsUnder once c × Has rect c))
gains_common once twice new rect parts common cells c = (
  λ u. elim ((cells c).0 u) [ inl v ↦ inl v | inr p ↦ inr ((common c).0 p) ],
  λ k. (cells c).1 (elim k [ inl v ↦ inl v | inr both ↦ inr ((common c).1 both) ]),
)

pub twice_next : (once more twice new : Skyline) (rects : List Rect) (i : ℕ) (x : Rect) → AreByRow rects
    → i < length rects → x ≡ get_or rects i x → IsTwiceTo once twice rects i
    → IsSkyline more → IsBelow x.y0 more → ((c : Cell) → IsUnder more c ↔ (IsUnder once c ⊎ Has x c))
    → IsSkyline new → IsBelow x.y0 new
    → ((c : Cell) → IsUnder new c ↔ (IsUnder twice c ⊎ (IsUnder once c × Has x c))) → IsTwiceTo more new rects (i + 1)
twice_next once more twice new rects i x sorted small is h more_sound more_below more_cells sound below cells = record {
  union = union_next once more rects i x sorted small is h.union more_sound more_below more_cells;
  sound = sound;
  cells = λ c. (
    λ u. (two_more c rects i x small is).1 (elim ((cells c).0 u) [
      | inl v ↦ inl ((h.cells c).0 v)
      | inr both ↦ inr ((h.union.cells c).0 both.0, both.1)
    ]),
    λ t. (cells c).1 (elim ((two_more c rects i x small is).0 t) [
      | inl v ↦ inl ((h.cells c).1 v)
      | inr both ↦ inr ((h.union.cells c).1 both.0, both.1)
    ]),
  );
  below = λ k rect up at. below_next rects i k x rect new sorted small is up at below;
}

-- ---- in the order of the list that was given

pub same_cells : (s : Skyline) (rects sorted runs : List Rect) (i : ℕ) → length sorted ≤ i → IsPermutation rects sorted → IsUnionTo s sorted i
    → ((c : Cell) → IsInUnion runs c ↔ IsUnder s c) → HaveSameCells rects runs
same_cells s rects sorted runs i past p h cells c = (
  λ u. (union_permutation c rects sorted p).0 ((union_all s sorted i past h c).0 ((cells c).0 u)),
  λ u. (cells c).1 ((union_all s sorted i past h c).1 ((union_permutation c rects sorted p).1 u)),
)

pub cells_of_two : (once twice : Skyline) (rects sorted runs : List Rect) (i : ℕ) → length sorted ≤ i → IsPermutation rects sorted → IsTwiceTo once twice sorted i
    → ((c : Cell) → IsInUnion runs c ↔ IsUnder twice c) → HaveCellsOfTwo rects runs
cells_of_two once twice rects sorted runs i past p h cells c =
    let all : IsUnder twice c ↔ IsInTwo sorted c = subst (λ (xs : List Rect). IsUnder twice c ↔ IsInTwo xs c) (take_all i sorted past) (h.cells c) in (
      λ u. (two_permutation c rects sorted p).0 (all.0 ((cells c).0 u)),
      λ t. (cells c).1 (all.1 ((two_permutation c rects sorted p).1 t)),
    )
