-- laws of corners: what those of one rectangle gain, what those of a list gain, and what they tell of what is covered
use Rattle.std.proofs.Common.{ℕ, zero, suc, negsuc, ℤ, Bool, List, [], ◌∷◌, ◌++◌, ◌+◌, ◌-◌, ◌%◌, ◌^◌, ◌<◌, ◌≤◌, ◌≡◌, ◌∙◌, ◌⊎◌, ◌↔◌, ◌+ℤ◌, ◌-ℤ◌, ◌<ℤ◌, pos, refl, sym, ap, subst, cond, true, false, inl, inr, arith, length, get_or, take, take_all, int_le, int_lt, ◌&&◌, ◌==◌}
use Rattle.lists.proofs.Words.{ints, int_eq, sum_by-append, sum_by-cons, sum_by_more, sum_by_push, sum_by-IsPermutation, and_parts, cases_Bool, eqb-true, eq-eqb, false≢true, IsPermutation, Decides-int_eq}
use Rattle.std.specs.Cmp.Derive.{both_true}
use Rattle.geo_core.specs.Plane.{Has}
use Rattle.geo_core.specs.declared.plane.Cell.{Cell}
use Rattle.geo_core.specs.declared.plane.Labelled.{Labelled}
use Rattle.geo_core.specs.declared.plane.Rect.{Rect}
use Rattle.skyline_runs.specs.Depths.{has_cell}
use Rattle.skyline_runs.proofs.laws.DepthLaws.{from_le, has_from, has_not, has_so, le_false, le_true, lt_false, lt_true}
use Rattle.net_pairs.specs.declared.corners.Corner.{Corner}
use Rattle.net_pairs.specs.inside.RowChanges.{CoverAlike, below, count_in}
use Rattle.net_pairs.specs.inside.ChangeCorners.{AreCornersOf, AreOfOnePlace, GainAlike, GainsCorner, GainsCorners, corner_at, gain_at, gained, rect_corners}
use Rattle.net_pairs.specs.inside.SameRests.{HaveOneRest}
use Rattle.net_pairs.proofs.RestLaws.{rest_added, rest_cancelled, rest_equal, rest_refl, rest_sym, rest_trans, rest_wrapped}

-- ---- a cell and one rectangle

-- a number lies before an interval, in it, or behind it. The tests: from its low end on, before its high end, from that on
data Side : Bool → Bool → Bool → Type 0 where
  side_before : Side false true false
  side_inside : Side true true false
  side_behind : Side true false true

side_of : (low high x : ℤ) → low <ℤ high → Side (int_le low x) (int_lt x high) (int_le high x)
side_of low high x some = elim (cases_Bool (int_le low x)) [
  | inl t ↦ elim (cases_Bool (int_le high x)) [
    | inl u ↦ rw (t, u, lt_false x high (from_le high x u)) side_behind
    | inr u ↦ rw (t, u, lt_true x high (not_le high x u)) side_inside
  ]
  | inr t ↦
      let less = not_le low x t in
      let a : x <ℤ high = omega (arith, ints) in rw (t, lt_true x high a, le_false high x a) side_before
] where
  not_le : (a b : ℤ) → int_le a b ≡ false → b <ℤ a
  not_le a b e = grind (arith, ints)

-- a row and the one below it against the rows of an interval: the tests of the row, of the row below, and whether the row is the low
-- end or the high one
data Level : Bool → Bool → Bool → Bool → Bool → Bool → Type 0 where
  level_under : Level false true false true false false
  level_first : Level true true false true true false
  level_between : Level true true true true false false
  level_end : Level true false true true false true
  level_over : Level true false true false false false

not_equal : (a b : ℤ) → (a ≡ b → ⊥) → int_eq a b ≡ false
not_equal a b n = elim (cases_Bool (int_eq a b)) [ inl t ↦ absurd (n ((Decides-int_eq a b).0 t)) | inr f ↦ f ]

equal_so : (a b : ℤ) → a ≡ b → int_eq a b ≡ true
equal_so a b e = (Decides-int_eq a b).1 e

order : (a b : ℤ) → (a <ℤ b) ⊎ (a ≡ b) ⊎ (b <ℤ a)
order a b = grind (arith, ints)

level_of : (low high y : ℤ) → low <ℤ high →
    Level (int_le low y) (int_lt y high) (int_le low (y -ℤ pos 1)) (int_lt (y -ℤ pos 1) high) (int_eq low y) (int_eq high y)
level_of low high y some = elim (order y low) [
  | inl a ↦ rw (not_equal low y (λ e. absurd (omega (arith, ints, a, e))), not_equal high y (λ e. absurd (omega (arith, ints, a, e, some))), le_false low y a, lt_true y high (omega (arith, ints, a, some)), le_false low (y -ℤ pos 1) (omega (arith, ints, a)), lt_true (y -ℤ pos 1) high (omega (arith, ints, a, some))) level_under
  | inr b ↦ elim b [
    | inl a ↦ rw (equal_so low y (sym a), not_equal high y (λ e. absurd (omega (arith, ints, a, e, some))), le_true low y (omega (arith, ints, a)), lt_true y high (omega (arith, ints, a, some)), le_false low (y -ℤ pos 1) (omega (arith, ints, a)), lt_true (y -ℤ pos 1) high (omega (arith, ints, a, some))) level_first
    | inr a ↦ elim (order y high) [
      | inl d ↦ rw (not_equal low y (λ e. absurd (omega (arith, ints, a, e))), not_equal high y (λ e. absurd (omega (arith, ints, d, e))), le_true low y (omega (arith, ints, a)), lt_true y high d, le_true low (y -ℤ pos 1) (omega (arith, ints, a)), lt_true (y -ℤ pos 1) high (omega (arith, ints, d))) level_between
      | inr k ↦ elim k [
        | inl d ↦ rw (not_equal low y (λ e. absurd (omega (arith, ints, a, e))), equal_so high y (sym d), le_true low y (omega (arith, ints, a)), lt_false y high (omega (arith, ints, d)), le_true low (y -ℤ pos 1) (omega (arith, ints, a)), lt_true (y -ℤ pos 1) high (omega (arith, ints, d))) level_end
        | inr d ↦ rw (not_equal low y (λ e. absurd (omega (arith, ints, a, e))), not_equal high y (λ e. absurd (omega (arith, ints, d, e))), le_true low y (omega (arith, ints, a)), lt_false y high (omega (arith, ints, d)), le_true low (y -ℤ pos 1) (omega (arith, ints, a)), lt_false (y -ℤ pos 1) high (omega (arith, ints, d))) level_over
      ]
    ]
  ]
]

-- what a rectangle covers and what its corners gain, by these tests
by_tests : {a b u p q r s t v : Bool} (mine : Bool) → Side a b u → Level p q r s t v →
    HaveOneRest
    (cond (mine && (a && b && (p && q))) 1 0)
    (cond (mine && (a && b && (r && s))) 1 0 + (0 + cond (mine && (t && a)) 1 0 + cond (mine && (t && u)) (2 ^ 64 - 1) 0 + cond (mine && (v && a)) (2 ^ 64 - 1) 0 + cond (mine && (v && u)) 1 0))
by_tests false side_before level_under = record { rest = refl }
by_tests false side_before level_first = record { rest = refl }
by_tests false side_before level_between = record { rest = refl }
by_tests false side_before level_end = record { rest = refl }
by_tests false side_before level_over = record { rest = refl }
by_tests false side_inside level_under = record { rest = refl }
by_tests false side_inside level_first = record { rest = refl }
by_tests false side_inside level_between = record { rest = refl }
by_tests false side_inside level_end = record { rest = refl }
by_tests false side_inside level_over = record { rest = refl }
by_tests false side_behind level_under = record { rest = refl }
by_tests false side_behind level_first = record { rest = refl }
by_tests false side_behind level_between = record { rest = refl }
by_tests false side_behind level_end = record { rest = refl }
by_tests false side_behind level_over = record { rest = refl }
by_tests true side_before level_under = record { rest = refl }
by_tests true side_before level_first = record { rest = refl }
by_tests true side_before level_between = record { rest = refl }
by_tests true side_before level_end = record { rest = refl }
by_tests true side_before level_over = record { rest = refl }
by_tests true side_inside level_under = record { rest = refl }
by_tests true side_inside level_first = record { rest = refl }
by_tests true side_inside level_between = record { rest = refl }
by_tests true side_inside level_end = record { rest = refl }
by_tests true side_inside level_over = record { rest = refl }
by_tests true side_behind level_under = record { rest = refl }
by_tests true side_behind level_first = record { rest = refl }
by_tests true side_behind level_between = record { rest = refl }
by_tests true side_behind level_end = record { rest = refl }
by_tests true side_behind level_over = record { rest = refl }

-- 1 where the rectangle has this label and the cell
abbrev one_if : Bool → ℕ
one_if b = cond b 1 0

abbrev covers : ℕ → Rect → ℕ → Cell → ℕ
covers own rect label c = one_if (own == label && has_cell c rect)

module _ (own : ℕ) (rect : Rect) (across : rect.x0 <ℤ rect.x1) (up : rect.y0 <ℤ rect.y1) where
  rect_gains : (label : ℕ) (c : Cell) → HaveOneRest (covers own rect label c) (covers own rect label (below c) + gained (rect_corners own rect) label c)
  rect_gains label c = by_tests (own == label) (side_of rect.x0 rect.x1 c.i across) (level_of rect.y0 rect.y1 c.j up)

-- ---- the corners of one rectangle in the window

pub same_tests : (s t : Bool) → (s ≡ true → t ≡ true) → (t ≡ true → s ≡ true) → s ≡ t
same_tests true t f g = sym (f refl)
same_tests false true f g = g refl
same_tests false false f g = refl

-- what one rectangle of a list adds to the count of a cell
abbrev count_one : Rect → Labelled → ℕ → Cell → ℕ
count_one window one label c = cond (one.label == label && (has_cell c one.rect && has_cell c window)) 1 0

count_of_one : (window : Rect) (one : Labelled) (label : ℕ) (c : Cell) → count_in window (one ∷ []) label c ≡ count_one window one label c
count_of_one window one label c = omega (arith, sum_by-cons (λ (x : Labelled). count_one window x label c) one [])

module _ (window : Rect) (one : Labelled) where
  pub gains_none : ((c : Cell) → Has one.rect c → Has window c → ⊥) → (old : List Corner) → GainsCorners window one old old
  gains_none never old = record { change = λ label c. rest_equal (ap (λ n. n + gained old label c) (none label c ∙ sym (none label (below c)))) } where
    zeros : (b : Bool) → one_if (b && false) ≡ 0
    zeros true = refl
    zeros false = refl

    none : (label : ℕ) (c : Cell) → count_in window (one ∷ []) label c ≡ 0
    none label c =
        let e : (has_cell c one.rect && has_cell c window) ≡ false = same_tests (has_cell c one.rect && has_cell c window) false
        (λ t. let both = and_parts (has_cell c one.rect) (has_cell c window) t in absurd (never c (has_from c one.rect both.0) (has_from c window both.1)))
        (λ f. absurd (false≢true f)) in
        count_of_one window one label c ∙ ap (λ b. one_if (one.label == label && b)) e ∙ zeros (one.label == label)

  pub gains_clipped : (rect : Rect) → rect.x0 <ℤ rect.x1 → rect.y0 <ℤ rect.y1 → ((c : Cell) → Has rect c ↔ (Has one.rect c × Has window c)) → (old : List Corner) → GainsCorners window one old (old ++ rect_corners one.label rect)
  gains_clipped rect across up cells old = record { change = gains } where
    test : (c : Cell) → (has_cell c one.rect && has_cell c window) ≡ has_cell c rect
    test c = same_tests (has_cell c one.rect && has_cell c window) (has_cell c rect)
        (λ t. let both = and_parts (has_cell c one.rect) (has_cell c window) t in has_so c rect ((cells c).1 (has_from c one.rect both.0, has_from c window both.1)))
        (λ t. let both = (cells c).0 (has_from c rect t) in let e = has_so c one.rect both.0 in let f = has_so c window both.1 in rw (e, f) refl)

    count : (label : ℕ) (c : Cell) → count_in window (one ∷ []) label c ≡ covers one.label rect label c
    count label c = count_of_one window one label c ∙ ap (λ b. one_if (one.label == label && b)) (test c)

    gains : (label : ℕ) (c : Cell) → HaveOneRest (count_in window (one ∷ []) label c + gained old label c) (count_in window (one ∷ []) label (below c) + gained (old ++ rect_corners one.label rect) label c)
    gains label c =
        let both = sum_by-append (gain_at label c) old (rect_corners one.label rect) in
        rest_trans (rest_equal (ap (λ n. n + gained old label c) (count label c)))
        (rest_trans (rest_added (rect_gains one.label rect across up label c) (rest_refl (gained old label c))) (rest_equal (let e = count label (below c) in omega (arith, both, e))))

-- ---- the corners of a list

pub corners_begun : (window : Rect) (rects : List Labelled) → AreCornersOf window (take 0 rects) []
corners_begun window rects = record { change = λ label c. rest_refl 0 }

module _ (window : Rect) (rects : List Labelled) (i : ℕ) (old new : List Corner) (one : Labelled) (small : i < length rects) (is : one ≡ get_or rects i one) where
  pub corners_more : AreCornersOf window (take i rects) old → GainsCorners window one old new → AreCornersOf window (take (i + 1) rects) new
  corners_more so_far gains = record { change = λ label c. rest_cancelled (both label c) (rest_refl (gained old label c)) } where
    more : (label : ℕ) (c : Cell) → count_in window (take (i + 1) rects) label c ≡ count_in window (take i rects) label c + count_in window (one ∷ []) label c
    more label c =
        let a = sum_by_more (λ (x : Labelled). count_one window x label c) rects i one small in
        let b = ap (λ (x : Labelled). count_one window x label c) is in
        let d = count_of_one window one label c in omega (arith, a, b, d)

    both : (label : ℕ) (c : Cell) → HaveOneRest (count_in window (take (i + 1) rects) label c + gained old label c) (count_in window (take (i + 1) rects) label (below c) + gained new label c + gained old label c)
    both label c =
        let a = more label c in
        let b = more label (below c) in
        rest_trans (rest_equal (sorted a)) (rest_trans (rest_added (so_far.change label c) (gains.change label c)) (rest_equal (again b)))
      where
        sorted : count_in window (take (i + 1) rects) label c ≡ count_in window (take i rects) label c + count_in window (one ∷ []) label c
            → count_in window (take (i + 1) rects) label c + gained old label c ≡ count_in window (take i rects) label c + (count_in window (one ∷ []) label c + gained old label c)
        sorted a = omega (arith, a)

        again : count_in window (take (i + 1) rects) label (below c) ≡ count_in window (take i rects) label (below c) + count_in window (one ∷ []) label (below c)
            → count_in window (take i rects) label (below c) + gained old label c + (count_in window (one ∷ []) label (below c) + gained new label c) ≡ count_in window (take (i + 1) rects) label (below c) + gained new label c + gained old label c
        again b = omega (arith, b)

pub corners_all : (window : Rect) (rects : List Labelled) (i : ℕ) (corners : List Corner) → length rects ≤ i → AreCornersOf window (take i rects) corners → AreCornersOf window rects corners
corners_all window rects i corners past are = subst (λ (xs : List Labelled). AreCornersOf window xs corners) (take_all i rects past) are

pub corners_alike : (window : Rect) (rects : List Labelled) (corners others : List Corner) → AreCornersOf window rects corners → GainAlike corners others → AreCornersOf window rects others
corners_alike window rects corners others are alike = record {
  change = λ label c. rest_trans (are.change label c) (rest_added (rest_refl (count_in window rects label (below c))) (rest_sym (alike label c)));
}

pub alike_both : (corners others last : List Corner) → GainAlike corners others → GainAlike others last → GainAlike corners last
alike_both corners others last one next label c = rest_trans (next label c) (one label c)

pub alike_moved : (corners sorted : List Corner) → IsPermutation corners sorted → GainAlike corners sorted
alike_moved corners sorted moved label c = rest_equal (sum_by-IsPermutation (gain_at label c) corners sorted moved)

-- ---- added up

pub nothing_gained : (label : ℕ) (c : Cell) (corner : Corner) → corner.gain ≡ 0 → gain_at label c corner ≡ 0
nothing_gained label c corner e = either (corner.label == label && (int_eq corner.row c.j && int_le corner.column c.i)) e where
  either : (b : Bool) → corner.gain ≡ 0 → cond b corner.gain 0 ≡ 0
  either true e = e
  either false e = refl

pub gains_one : (corner : Corner) (old new : List Corner) → new ≡ old ++ corner ∷ [] → GainsCorner corner old new
gains_one corner old new e label c = ap (λ (xs : List Corner). gained xs label c) e ∙ sum_by_push (gain_at label c) old corner

pub gains_nothing : (corner : Corner) (old : List Corner) → corner.gain ≡ 0 → GainsCorner corner old old
gains_nothing corner old e label c = let n = nothing_gained label c corner e in omega (arith, n)

-- what the first so many corners gain is in the list or at the last place
pub record AreGainsTo (sorted : List Corner) (i : ℕ) (corners : List Corner) (last : Corner) : Type 0 where
  pub total : (label : ℕ) (c : Cell) → HaveOneRest (gained corners label c + gain_at label c last) (gained (take i sorted) label c)

pub gains_begun : (sorted : List Corner) (last : Corner) → last.gain ≡ 0 → AreGainsTo sorted 0 [] last
gains_begun sorted last e = record { total = λ label c. rest_equal (none label c) } where
  none : (label : ℕ) (c : Cell) → gained [] label c + gain_at label c last ≡ gained [] label c
  none label c = let n = nothing_gained label c last e in omega (arith, n)

-- two corners of one place, with the gain of both
pub gains_at_one : (label : ℕ) (c : Cell) (last corner : Corner) → AreOfOnePlace last corner →
    HaveOneRest (gain_at label c (corner_at last.label last.row last.column ((last.gain + corner.gain) % 2 ^ 64))) (gain_at label c last + gain_at label c corner)
gains_at_one label c last corner same =
    rest_trans (either (last.label == label && (int_eq last.row c.j && int_le last.column c.i))) (rest_equal (ap (λ b. gain_at label c last + cond b corner.gain 0) test))
  where
    test : (last.label == label && (int_eq last.row c.j && int_le last.column c.i)) ≡ (corner.label == label && (int_eq corner.row c.j && int_le corner.column c.i))
    test = rw (same.0, same.1, same.2) refl

    either : (b : Bool) → HaveOneRest (cond b ((last.gain + corner.gain) % 2 ^ 64) 0) (cond b last.gain 0 + cond b corner.gain 0)
    either true = rest_wrapped (last.gain + corner.gain)
    either false = rest_refl 0

module _ (sorted : List Corner) (i : ℕ) (corners : List Corner) (last : Corner) (h : AreGainsTo sorted i corners last) where
  pub gains_all : (new : List Corner) → length sorted ≤ i → GainsCorner last corners new → GainAlike sorted new
  gains_all new past gains label c =
      rest_trans (rest_equal (gains label c)) (rest_trans (h.total label c) (rest_equal (ap (λ (xs : List Corner). gained xs label c) (take_all i sorted past))))

  module _ (corner : Corner) (small : i < length sorted) (is : corner ≡ get_or sorted i corner) where
    more : (label : ℕ) (c : Cell) → gained (take i sorted) label c + gain_at label c corner ≡ gained (take (i + 1) sorted) label c
    more label c =
        let a = sum_by_more (gain_at label c) sorted i corner small in
        let b = ap (gain_at label c) is in omega (arith, a, b)

    pub gains_same : AreOfOnePlace last corner → AreGainsTo sorted (i + 1) corners (corner_at last.label last.row last.column ((last.gain + corner.gain) % 2 ^ 64))
    gains_same same = record {
      total = λ label c.
          rest_trans (rest_added (rest_refl (gained corners label c)) (gains_at_one label c last corner same))
          (rest_trans (rest_equal (omega arith)) (rest_trans (rest_added (h.total label c) (rest_refl (gain_at label c corner))) (rest_equal (more label c))));
    }

    pub gains_next : (new : List Corner) → GainsCorner last corners new → AreGainsTo sorted (i + 1) new corner
    gains_next new gains = record {
      total = λ label c.
          rest_trans (rest_equal (ap (λ n. n + gain_at label c corner) (gains label c)))
          (rest_trans (rest_added (h.total label c) (rest_refl (gain_at label c corner))) (rest_equal (more label c)));
    }

-- ---- two lists with the same corners

some_below : (z : ℤ) → (n : ℕ) × (z <ℤ pos n)
some_below (pos n) = (suc n, omega (arith, ints))
some_below (negsuc n) = (0, omega (arith, ints))

module _ (window : Rect) where
  -- outside of the window nothing counts
  count_outside : (rects : List Labelled) (label : ℕ) (c : Cell) → (Has window c → ⊥) → count_in window rects label c ≡ 0
  count_outside [] label c out = refl
  count_outside (one ∷ rects) label c out =
      let e = has_not c window out in
      let a = sum_by-cons (λ (x : Labelled). count_one window x label c) one rects in
      let b : count_one window one label c ≡ 0 = ap (λ t. one_if (one.label == label && (has_cell c one.rect && t))) e ∙ zeros (one.label == label) (has_cell c one.rect) in
      let d = count_outside rects label c out in omega (arith, a, b, d)
    where
      zeros : (s t : Bool) → one_if (s && (t && false)) ≡ 0
      zeros true true = refl
      zeros true false = refl
      zeros false t = refl

  module _ (rects others : List Labelled) (corners : List Corner) (are : AreCornersOf window rects corners) (also : AreCornersOf window others corners) where
    -- up to so many rows from the lowest one of the window
    alike_to : (n : ℕ) (label : ℕ) (c : Cell) → c.j <ℤ (window.y0 +ℤ pos n) → HaveOneRest (count_in window others label c) (count_in window rects label c)
    alike_to zero label c low =
        let out : Has window c → ⊥ = λ h. let from = h.up.from in absurd (omega (arith, ints, from, low)) in
        rest_equal (count_outside others label c out ∙ sym (count_outside rects label c out))
    alike_to (suc n) label c low =
        rest_trans (also.change label c)
        (rest_trans (rest_added (alike_to n label (below c) (omega (arith, ints, low))) (rest_refl (gained corners label c))) (rest_sym (are.change label c)))

    pub cover_alike : CoverAlike window rects others
    cover_alike label c = let n = some_below (c.j -ℤ window.y0) in let low = n.1 in alike_to n.0 label c (omega (arith, ints, low))

pub cover_itself : (window : Rect) (rects : List Labelled) → CoverAlike window rects rects
cover_itself window rects label c = rest_refl (count_in window rects label c)

-- ---- lists of corners that test as equal

-- the test of two corners, field by field
abbrev pub same_corner : Corner → Corner → Bool
same_corner a b = a.label == b.label && (int_eq a.row b.row && (int_eq a.column b.column && a.gain == b.gain))

same_fields : (a b : Corner) → a.label ≡ b.label → a.row ≡ b.row → a.column ≡ b.column → a.gain ≡ b.gain → a ≡ b
same_fields a b e f g h =
    ap (λ label. corner_at label a.row a.column a.gain) e
    ∙ ap (λ row. corner_at b.label row a.column a.gain) f
    ∙ ap (λ column. corner_at b.label b.row column a.gain) g
    ∙ ap (λ gain. corner_at b.label b.row b.column gain) h

same_itself : (a : Corner) → same_corner a a ≡ true
same_itself a = both_true (eq-eqb a.label a.label refl) (both_true (equal_so a.row a.row refl) (both_true (equal_so a.column a.column refl) (eq-eqb a.gain a.gain refl)))

pub corner_decides : (a b : Corner) → (same_corner a b ≡ true → a ≡ b) × (a ≡ b → same_corner a b ≡ true)
corner_decides a b = (
  λ t.
      let one = and_parts (a.label == b.label) (int_eq a.row b.row && (int_eq a.column b.column && a.gain == b.gain)) t in
      let two = and_parts (int_eq a.row b.row) (int_eq a.column b.column && a.gain == b.gain) one.1 in
      let three = and_parts (int_eq a.column b.column) (a.gain == b.gain) two.1 in
      same_fields a b (eqb-true a.label b.label one.0) ((Decides-int_eq a.row b.row).0 two.0) ((Decides-int_eq a.column b.column).0 three.0) (eqb-true a.gain b.gain three.1),
  λ e. subst (λ x. same_corner a x ≡ true) e (same_itself a),
)
