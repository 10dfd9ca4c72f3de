-- rectangles that are joined where they touch, one by one
use Rattle.std.proofs.Common.{ℕ, ◌+◌, ◌<◌, ◌≤◌, ◌≡◌, ◌∙◌, refl, sym, subst, arith, List, [], ◌∷◌, ◌++◌, length, take, take_all, get_or, inl, inr, ◌⊎◌, ℤ, ◌≤ℤ◌, ◌↔◌}
use Rattle.lists.proofs.Words.{IsPermutation, append-nil, by_lt_z, clamps, int_max, int_min, ints}
use Rattle.geo_core.proofs.IntervalLaws.{IsIn-at, in_ends}
use Rattle.geo_core.specs.Plane.{Has, IsIn, IsInUnion, IsIntervalJoin}
use Rattle.geo_core.specs.declared.plane.Cell.{Cell}
use Rattle.geo_core.specs.declared.plane.Rect.{Rect}
use Rattle.fault_model.proofs.UnionLaws.{union_more, union_permutation, union_push}
use Rattle.skyline_runs.specs.Runs.{HaveSameCells}

-- ---- intervals

-- two intervals that touch: what joins them has no other numbers
pub joined_only : (a0 a1 b0 b1 low high : ℤ) → a0 ≤ℤ b1 → b0 ≤ℤ a1 → IsIntervalJoin a0 a1 b0 b1 low high → (x : ℤ) → IsIn low high x ↔ (IsIn a0 a1 x ⊎ IsIn b0 b1 x)
joined_only a0 a1 b0 b1 low high to back join x = (
  λ i.
      let ends = join.least (int_min a0 b0) (int_max a1 b1) (in_ends a0 a1 _ _ (omega (arith, ints, clamps)) (omega (arith, ints, clamps))) (in_ends b0 b1 _ _ (omega (arith, ints, clamps)) (omega (arith, ints, clamps))) x i in
      let from = ends.from in let before = ends.before in
      by_lt_z x a0 (λ l. inr (record { from = omega (arith, ints, clamps); before = omega (arith, ints, clamps) }))
      (λ k. by_lt_z x a1 (λ l. inl (record { from = k; before = l })) (λ m. inr (record { from = omega (arith, ints, clamps); before = omega (arith, ints, clamps) }))),
  λ h. elim h [ inl i ↦ join.first x i | inr i ↦ join.second x i ],
)

-- the same with other names for the six ends
pub joined_as : (a0 a1 b0 b1 low high c0 c1 d0 d1 e0 e1 : ℤ) → a0 ≡ c0 → a1 ≡ c1 → b0 ≡ d0 → b1 ≡ d1 → e0 ≡ low → e1 ≡ high → c0 ≤ℤ d1 → d0 ≤ℤ c1 → IsIntervalJoin a0 a1 b0 b1 low high
    → (x : ℤ) → IsIn e0 e1 x ↔ (IsIn c0 c1 x ⊎ IsIn d0 d1 x)
joined_as a0 a1 b0 b1 low high c0 c1 d0 d1 e0 e1 a a' b b' e e' to back join x =
    let only = joined_only a0 a1 b0 b1 low high (omega (arith, ints)) (omega (arith, ints)) join x in (
      λ i. elim (only.0 (IsIn-at low high x i (sym e) (sym e') refl)) [ inl h ↦ inl (IsIn-at c0 c1 x h (sym a) (sym a') refl) | inr h ↦ inr (IsIn-at d0 d1 x h (sym b) (sym b') refl) ],
      λ u. IsIn-at e0 e1 x (only.1 (elim u [ inl h ↦ inl (IsIn-at a0 a1 x h a a' refl) | inr h ↦ inr (IsIn-at b0 b1 x h b b' refl) ])) e e' refl,
    )

-- ---- rectangles

module _ (one other both : Rect) where
  -- side by side
  pub both_columns : one.y0 ≡ other.y0 → one.y1 ≡ other.y1 → both.y0 ≡ one.y0 → both.y1 ≡ one.y1 → ((x : ℤ) → IsIn both.x0 both.x1 x ↔ (IsIn one.x0 one.x1 x ⊎ IsIn other.x0 other.x1 x))
      → (c : Cell) → Has both c ↔ (Has one c ⊎ Has other c)
  both_columns low high bottom top columns c = (
    λ h. elim ((columns c.i).0 h.across) [
      | inl i ↦ inl (record { across = i; up = IsIn-at one.y0 one.y1 c.j h.up (sym bottom) (sym top) refl })
      | inr i ↦ inr (record { across = i; up = IsIn-at other.y0 other.y1 c.j h.up (sym low ∙ sym bottom) (sym high ∙ sym top) refl })
    ],
    λ u. elim u [
      | inl h ↦ record { across = (columns c.i).1 (inl h.across); up = IsIn-at both.y0 both.y1 c.j h.up bottom top refl }
      | inr h ↦ record { across = (columns c.i).1 (inr h.across); up = IsIn-at both.y0 both.y1 c.j h.up (bottom ∙ low) (top ∙ high) refl }
    ],
  )

  -- one above the other
  pub both_rows : one.x0 ≡ other.x0 → one.x1 ≡ other.x1 → both.x0 ≡ one.x0 → both.x1 ≡ one.x1 → ((y : ℤ) → IsIn both.y0 both.y1 y ↔ (IsIn one.y0 one.y1 y ⊎ IsIn other.y0 other.y1 y))
      → (c : Cell) → Has both c ↔ (Has one c ⊎ Has other c)
  both_rows low high left right rows c = (
    λ h. elim ((rows c.j).0 h.up) [
      | inl i ↦ inl (record { across = IsIn-at one.x0 one.x1 c.i h.across (sym left) (sym right) refl; up = i })
      | inr i ↦ inr (record { across = IsIn-at other.x0 other.x1 c.i h.across (sym low ∙ sym left) (sym high ∙ sym right) refl; up = i })
    ],
    λ u. elim u [
      | inl h ↦ record { across = IsIn-at both.x0 both.x1 c.i h.across left right refl; up = (rows c.j).1 (inl h.up) }
      | inr h ↦ record { across = IsIn-at both.x0 both.x1 c.i h.across (left ∙ low) (right ∙ high) refl; up = (rows c.j).1 (inr h.up) }
    ],
  )

-- ---- lists

-- the second list has the cells of the first one and of the rectangle
abbrev pub Gains : List Rect → List Rect → Rect → Type 0
Gains old new rect = (c : Cell) → IsInUnion new c ↔ (IsInUnion old c ⊎ Has rect c)

pub gains_first : (old rest new : List Rect) (rect : Rect) → old ≡ rest ++ [] → new ≡ rest ++ rect ∷ [] → Gains old new rect
gains_first old rest new rect was is c =
    subst (λ (xs : List Rect). IsInUnion xs c ↔ (IsInUnion old c ⊎ Has rect c)) (sym is)
    (subst (λ (xs : List Rect). IsInUnion (rest ++ rect ∷ []) c ↔ (IsInUnion xs c ⊎ Has rect c)) (sym (was ∙ append-nil rest)) (union_push c rest rect))

pub gains_behind : (old rest same new : List Rect) (last rect : Rect) → old ≡ rest ++ last ∷ [] → same ≡ rest ++ last ∷ [] → new ≡ same ++ rect ∷ [] → Gains old new rect
gains_behind old rest same new last rect was stays is c =
    subst (λ (xs : List Rect). IsInUnion xs c ↔ (IsInUnion old c ⊎ Has rect c)) (sym is)
    (subst (λ (xs : List Rect). IsInUnion (same ++ rect ∷ []) c ↔ (IsInUnion xs c ⊎ Has rect c)) (stays ∙ sym was) (union_push c same rect))

pub gains_joined : (old rest new : List Rect) (last both rect : Rect) → old ≡ rest ++ last ∷ [] → new ≡ rest ++ both ∷ [] → ((c : Cell) → Has both c ↔ (Has last c ⊎ Has rect c)) → Gains old new rect
gains_joined old rest new last both rect was is same c =
    let before = subst (λ (xs : List Rect). IsInUnion xs c ↔ (IsInUnion rest c ⊎ Has last c)) (sym was) (union_push c rest last) in
    let behind = subst (λ (xs : List Rect). IsInUnion xs c ↔ (IsInUnion rest c ⊎ Has both c)) (sym is) (union_push c rest both) in (
      λ u. elim (behind.0 u) [
        | inl v ↦ inl (before.1 (inl v))
        | inr h ↦ elim ((same c).0 h) [ inl at ↦ inl (before.1 (inr at)) | inr at ↦ inr at ]
      ],
      λ u. elim u [
        | inl v ↦ elim (before.0 v) [ inl w ↦ behind.1 (inl w) | inr h ↦ behind.1 (inr ((same c).1 (inl h))) ]
        | inr h ↦ behind.1 (inr ((same c).1 (inr h)))
      ],
    )

-- the same cells as the first rectangles of a list
pub record SameSoFar (rects : List Rect) (k : ℕ) (joined : List Rect) : Type 0 where
  pub cells : HaveSameCells (take k rects) joined

pub same_none : (rects : List Rect) → SameSoFar rects 0 []
same_none rects = record { cells = λ c. (λ u. u, λ u. u) }

pub same_more : (rects : List Rect) (k : ℕ) (old new : List Rect) (rect : Rect) → SameSoFar rects k old → k < length rects → rect ≡ get_or rects k rect → Gains old new rect → SameSoFar rects (k + 1) new
same_more rects k old new rect so_far small is gains = record {
  cells = λ c.
      let first = union_more c rects k rect small is in let before = so_far.cells c in let behind = gains c in (
        λ u. first.1 (elim (behind.0 u) [ inl v ↦ inl (before.0 v) | inr h ↦ inr h ]),
        λ u. behind.1 (elim (first.0 u) [ inl v ↦ inl (before.1 v) | inr h ↦ inr h ]),
      );
}

pub same_all : (rects : List Rect) (k : ℕ) (joined : List Rect) → length rects ≤ k → SameSoFar rects k joined → HaveSameCells rects joined
same_all rects k joined past so_far = subst (λ (rs : List Rect). HaveSameCells rs joined) (take_all k rects past) so_far.cells

pub same_permuted : (rects sorted joined : List Rect) → IsPermutation rects sorted → HaveSameCells sorted joined → HaveSameCells rects joined
same_permuted rects sorted joined order same c =
    let one = union_permutation c rects sorted order in let other = same c in (λ u. one.0 (other.0 u), λ u. other.1 (one.1 u))
