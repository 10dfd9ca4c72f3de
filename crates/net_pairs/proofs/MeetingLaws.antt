-- what points and spans add, in sweeps and in parts of their lists
use Rattle.std.proofs.Common.{ℕ, ℤ, Bool, List, [], ◌∷◌, ◌++◌, ◌+◌, ◌*◌, ◌%◌, ◌^◌, if◌then◌else◌, ◌<◌, ◌≤◌, ◌≡◌, ◌∙◌, ◌⊎◌, ◌↔◌, ◌≤ℤ◌, ◌<ℤ◌, refl, sym, ap, subst, cond, not, true, false, inl, inr, arith, length, get_or, take, drop, take_all, All, AllPairs, Contains, filter, sum_by, count_by, nat_lt, ◌&&◌, ◌||◌, ◌==◌, IsTrue}
use Rattle.lists.proofs.Words.{ints, le_z, lt_z, sum_by-append, sum_by-cons, sum_by_more, sum_by_push, and_parts, cases_Bool, cases_lt, by_lt_z, All-contains, All-more, All-weaker, AllPairs-filter, get_or_default, length-drop, take-append-drop}
use Rattle.std.proofs.lemmas.List.{get_or-drop}
use Rattle.std.proofs.lemmas.List.Filters.{sum_by-filter_both}
use Rattle.lists.proofs.Containing.{Contains-take_cases}
use Rattle.lists.proofs.Differing.{AllPairs-tail, at_or_past}
use Rattle.geo_core.specs.Plane.{Has}
use Rattle.geo_core.specs.declared.plane.Cell.{Cell}
use Rattle.net_pairs.specs.declared.weighted.Weighted.{Weighted}
use Rattle.net_pairs.specs.declared.weighted.Lesser.{Lesser}
use Rattle.geo_core.specs.declared.plane.Rect.{Rect}
use Rattle.fault_model.specs.FaultNames.{Tally, cells_of}
use Rattle.fault_model.proofs.CellLaws.{Contains-cells_of, has_from_listed}
use Rattle.fault_model.proofs.PartTallies.{tally_of_part}
use Rattle.fault_model.proofs.TallyLaws.{Tally-none, Tally-same, Tally-same_all, Tally-test, Tally-unique}
use Rattle.skyline_runs.specs.Depths.{has_cell}
use Rattle.skyline_runs.proofs.laws.DepthLaws.{has_from, has_so}
use Rattle.union_area.proofs.laws.PartLaws.{Always, all_of}
use Rattle.std.proofs.lemmas.Bool.{le-ltb, lt-ltb}
use Rattle.std.proofs.Math.Nat.{mul-zero}
use Rattle.net_pairs.specs.inside.Meetings.{AreByRow, GainsSum, admits, begins_before, common_cells, common_item, crosses, is_earlier, meeting, meetings_of, meetings_with, meetings_with_span, meets_partly}
use Rattle.net_pairs.specs.inside.Sums.{AreAlike, cells_for, cells_if}
use Rattle.net_pairs.specs.inside.SameRests.{HaveOneRest}
use Rattle.net_pairs.proofs.RestLaws.{rest_added, rest_chained, rest_come, rest_equal, rest_multiplied, rest_refl, rest_trans, rest_wrapped}
use Rattle.net_pairs.proofs.DoubleSums.{sum_of_kinds, sum_of_zeros, sums_added, sums_agree}
use Rattle.net_pairs.proofs.SumLaws.{Item, cells_alike, of_pair_or_not}

-- ---- cells in common

pub common_tally : (window one other : Rect) → Tally (λ c. Has one c × Has other c) (cells_of window) (common_cells window one other)
common_tally window one other = Tally-same_all (cells_of window) (common_cells window one other) (λ c. (
  λ t. let both = and_parts (has_cell c one) (has_cell c other) (is_true _ t) in (has_from c one both.0, has_from c other both.1),
  λ h. from_true _ (both_true _ _ (has_so c one h.0) (has_so c other h.1)),
)) (Tally-test (λ c. has_cell c one && has_cell c other) (cells_of window)) where
  is_true : (b : Bool) → IsTrue b → b ≡ true
  is_true b t = cc

  from_true : (b : Bool) → b ≡ true → IsTrue b
  from_true b t = cc

  both_true : (a b : Bool) → a ≡ true → b ≡ true → (a && b) ≡ true
  both_true a b s t = rw (s, t) refl

pub common_is : (window one other : Rect) (n : ℕ) → Tally (λ c. Has one c × Has other c) (cells_of window) n → common_cells window one other ≡ n
common_is window one other n tally = Tally-unique (cells_of window) (common_cells window one other) n (common_tally window one other) tally

pub none_common : (window one other : Rect) → ((c : Cell) → Has one c → Has other c → Has window c → ⊥) → common_cells window one other ≡ 0
none_common window one other never =
    common_is window one other 0 (Tally-none (cells_of window) (λ c among h. never c h.0 h.1 (has_from_listed window c among)))

-- ---- a point and a span

module _ (window : Rect) (lesser : Lesser) (point span : Weighted) (one other : ℕ) where
  pub not_admitted : admits lesser point span ≡ false → meeting window lesser point span one other ≡ 0
  not_admitted e = rw e refl

  pub not_earlier : is_earlier span point ≡ false → meeting window lesser point span one other ≡ 0
  not_earlier e = elim (cases_Bool (admits lesser point span)) [ inl t ↦ rw (t, e) refl | inr t ↦ not_admitted t ]

  -- labels and columns are such that both add something
  pub both_meet : admits lesser point span ≡ true → is_earlier span point ≡ true → meeting window lesser point span one other ≡ cells_if one other (common_item window point span)
  both_meet t u = rw (t, u) refl

  pub nothing_common : common_cells window point.rect span.rect ≡ 0 → meeting window lesser point span one other ≡ 0
  nothing_common e = elim (cases_Bool (admits lesser point span)) [
    | inl t ↦ elim (cases_Bool (is_earlier span point)) [
      | inl u ↦ both_meet t u ∙ elim (of_pair_or_not one other (common_item window point span)) [
        | inl h ↦ h.2 ∙ ap (λ (n : ℕ). point.weight * span.weight * n) e ∙ mul-zero (point.weight * span.weight)
        | inr h ↦ h.1
      ]
      | inr u ↦ not_earlier u
    ]
    | inr t ↦ not_admitted t
  ]

  pub far_apart : ((c : Cell) → Has point.rect c → Has span.rect c → ⊥) → meeting window lesser point span one other ≡ 0
  far_apart never = nothing_common (none_common window point.rect span.rect (λ c h k w. never c h k))

  pub span_above : point.rect.y1 ≤ℤ span.rect.y0 → meeting window lesser point span one other ≡ 0
  span_above h = far_apart (λ c p s. let a = p.up.before in let b = s.up.from in absurd (omega (arith, ints)))

  pub point_above : span.rect.y1 ≤ℤ point.rect.y0 → meeting window lesser point span one other ≡ 0
  point_above h = far_apart (λ c p s. let a = s.up.before in let b = p.up.from in absurd (omega (arith, ints)))

  pub span_left : span.rect.x1 ≤ℤ point.rect.x0 → meeting window lesser point span one other ≡ 0
  span_left h = far_apart (λ c p s. let a = s.across.before in let b = p.across.from in absurd (omega (arith, ints)))

  pub span_right : point.rect.x0 <ℤ span.rect.x0 → meeting window lesser point span one other ≡ 0
  span_right h = not_earlier (
      let a : lt_z span.rect.x0 point.rect.x0 ≡ false = grind (arith, ints) in
      let b : le_z span.rect.x0 point.rect.x0 ≡ false = grind (arith, ints) in
      rw (a, b) refl)

-- ---- lists in the order of their lowest rows

module _ (first last : ℤ) (window : Rect) (lesser : Lesser) (points spans : List Weighted) (one other : ℕ) where
  -- spans that reach over all columns in which points begin, and those that meet some of them
  pub across_and_partly : All (λ (point : Weighted). (first ≤ℤ point.rect.x0) × (point.rect.x0 ≤ℤ last)) points
      → meetings_of window lesser points (filter (crosses first last) spans) one other + meetings_of window lesser points (filter (meets_partly first last) spans) one other ≡ meetings_of window lesser points spans one other
  across_and_partly within =
      sym (sums_added (λ point. meetings_with window lesser point (filter (crosses first last) spans) one other) (λ point. meetings_with window lesser point (filter (meets_partly first last) spans) one other) points)
      ∙ sums_agree _ (λ point. meetings_with window lesser point spans one other) points (λ point among.
      let at = All-contains (λ (p : Weighted). (first ≤ℤ p.rect.x0) × (p.rect.x0 ≤ℤ last)) points point within among in
      sum_of_kinds (λ span. meeting window lesser point span one other) (crosses first last) (meets_partly first last) spans (λ span t. rw t refl) (λ span t u. beside point span at.0 at.1 t u))
    where
      beside : (point span : Weighted) → first ≤ℤ point.rect.x0 → point.rect.x0 ≤ℤ last → crosses first last span ≡ false → meets_partly first last span ≡ false → meeting window lesser point span one other ≡ 0
      beside point span f l t u =
          let v : (le_z span.rect.x0 last && lt_z first span.rect.x1) ≡ false = rw t at u in
          by_lt_z last span.rect.x0
          (λ h. span_right window lesser point span one other (omega (arith, ints)))
          (λ h. by_lt_z first span.rect.x1
          (λ k. let a : le_z span.rect.x0 last ≡ true = grind (arith, ints) in let b : lt_z first span.rect.x1 ≡ true = grind (arith, ints) in absurd (cc))
          (λ k. span_left window lesser point span one other (omega (arith, ints))))

-- ---- sums of items

pub gains_same : (f g : ℕ → ℕ → ℕ) {old new : List Item} → ((one other : ℕ) → f one other ≡ g one other) → GainsSum f old new → GainsSum g old new
gains_same f g {old = old} same gains = record { sum = λ one other. rest_trans (gains.sum one other) (rest_equal (ap (λ (n : ℕ). cells_for one other old + n) (same one other))) }

pub gains_none : (f : ℕ → ℕ → ℕ) (items : List Item) → ((one other : ℕ) → f one other ≡ 0) → GainsSum f items items
gains_none f items zero = record { sum = λ one other. rest_equal (let z = zero one other in omega (arith, z)) }

pub gains_two : (f g h : ℕ → ℕ → ℕ) {old mid new : List Item} → ((one other : ℕ) → f one other + g one other ≡ h one other) → GainsSum f old mid → GainsSum g mid new → GainsSum h old new
gains_two f g h {old = old} both here there = record { sum = λ one other. rest_chained (cells_for one other old) (f one other) (g one other) (both one other) (here.sum one other) (there.sum one other) }

-- an item of the two labels
module _ (window : Rect) (lesser : Lesser) (point span : Weighted) (common : Rect) (cells each : ℕ) where
  counted_common : ((c : Cell) → Has common c ↔ (Has point.rect c × Has span.rect c × Has window c)) → cells ≡ length (cells_of common) → common_cells window point.rect span.rect ≡ cells
  counted_common is count =
      common_is window point.rect span.rect (length (cells_of common)) (Tally-same (cells_of window) (length (cells_of common)) (λ c listed. (
        λ (both : Always c × Has common c). let k = (is c).0 both.1 in (k.0, k.1),
        λ (k : Has point.rect c × Has span.rect c). (tt, (is c).1 (k.0, k.1, (Contains-cells_of window c).0 listed)),
      )) (tally_of_part {P = Always} window common (length (cells_of common)) (λ c h. ((is c).0 h).2) (all_of common))) ∙ sym count

  -- the cells that both have, each as often as both weights tell
  weighed : each ≡ (point.weight * span.weight) % 2 ^ 64 → common_cells window point.rect span.rect ≡ cells
      → HaveOneRest ((each * cells) % 2 ^ 64) (point.weight * span.weight * common_cells window point.rect span.rect)
  weighed e f = rest_trans (rest_wrapped (each * cells)) (rest_multiplied (rest_trans (rest_equal e) (rest_wrapped (point.weight * span.weight))) (rest_equal (sym f)))

  pub meeting_gained : (a b : ℕ) {old new : List Item} → admits lesser point span ≡ true → is_earlier span point ≡ true
      → (if nat_lt span.label point.label then span.label else point.label) ≡ a → (if nat_lt span.label point.label then point.label else span.label) ≡ b
      → ((c : Cell) → Has common c ↔ (Has point.rect c × Has span.rect c × Has window c)) → cells ≡ length (cells_of common) → each ≡ (point.weight * span.weight) % 2 ^ 64
      → new ≡ old ++ (a, b, (each * cells) % 2 ^ 64) ∷ [] → GainsSum (meeting window lesser point span) old new
  meeting_gained a b {old = old} {new = new} admitted earlier first second is count product e =
      let common_is : common_cells window point.rect span.rect ≡ cells = counted_common is count in
      let w = point.weight * span.weight * common_cells window point.rect span.rect in record {
        sum = λ one other.
            let push = sum_by_push (cells_if one other) old (a, b, (each * cells) % 2 ^ 64) in
            let f = ap (cells_for one other) e in
            let g : meeting window lesser point span one other ≡ cells_if one other (a, b, w) =
            both_meet window lesser point span one other admitted earlier ∙ ap (λ (n : ℕ). cells_if one other (n, if nat_lt span.label point.label then point.label else span.label, w)) first
            ∙ ap (λ (n : ℕ). cells_if one other (a, n, w)) second in
            rest_trans (rest_equal (f ∙ push)) (rest_added (rest_refl (cells_for one other old))
            (rest_trans (cells_alike one other a b ((each * cells) % 2 ^ 64) w (weighed product common_is)) (rest_equal (sym g))));
      }

pub lesser_span : (a b : ℕ) → a < b → ((if nat_lt a b then a else b) ≡ a) × ((if nat_lt a b then b else a) ≡ b)
lesser_span a b less = (rw (lt-ltb a b less) refl, rw (lt-ltb a b less) refl)

pub lesser_point : (a b : ℕ) → b ≤ a → ((if nat_lt a b then a else b) ≡ b) × ((if nat_lt a b then b else a) ≡ a)
lesser_point a b less = (rw (le-ltb a b less) refl, rw (le-ltb a b less) refl)

-- ---- one item with a list, as far as the first `i` of it

module _ (xs : List Weighted) (by_row : AreByRow xs) (i : ℕ) (x : Weighted) (small : i < length xs) (is : x ≡ get_or xs i x) where
  -- from a place on none begins lower
  from_place : (y : Weighted) → Contains (drop i xs) y → x.rect.y0 ≤ℤ y.rect.y0
  from_place y (k, within, y_is) =
      let l = length-drop i xs in
      let at : get_or xs (i + k) y ≡ y = sym (get_or-drop i xs k y) ∙ y_is in
      let here : get_or xs i y ≡ x = get_or_default xs i y x small ∙ sym is in
      elim (cases_lt 0 k) [
        | inl later ↦ subst (λ (a : Weighted). a.rect.y0 ≤ℤ y.rect.y0) here (subst (λ (b : Weighted). (get_or xs i y).rect.y0 ≤ℤ b.rect.y0) at (by_row i (i + k) y (omega arith) (omega arith)))
        | inr first ↦
            let f : i + k ≡ i = omega arith in
            let same : x ≡ y = sym here ∙ ap (λ n. get_or xs n y) (sym f) ∙ at in
            let e : x.rect.y0 ≡ y.rect.y0 = ap (λ (a : Weighted). a.rect.y0) same in omega (arith, ints, e)
      ]

  -- where those from there on add nothing, the first ones add all
  pub rest_adds_nothing : (f : Weighted → ℕ) → ((y : Weighted) → x.rect.y0 ≤ℤ y.rect.y0 → f y ≡ 0) → sum_by f (take i xs) ≡ sum_by f xs
  rest_adds_nothing f zero =
      let z = sum_of_zeros f (drop i xs) (λ y among. zero y (from_place y among)) in
      let parts = sum_by-append f (take i xs) (drop i xs) in
      let whole = ap (sum_by f) (take-append-drop i xs) in
      omega (arith, z, parts, whole)

-- one more item of a list
module _ (f : Weighted → ℕ → ℕ → ℕ) (xs : List Weighted) (i : ℕ) (x : Weighted) where
  pub gains_more : i < length xs → x ≡ get_or xs i x → {old mid new : List Item} → GainsSum (λ one other. sum_by (λ y. f y one other) (take i xs)) old mid → GainsSum (f x) mid new
      → GainsSum (λ one other. sum_by (λ y. f y one other) (take (i + 1) xs)) old new
  gains_more small is {old = old} so_far here = record {
    sum = λ one other.
        let more = sum_by_more (λ y. f y one other) xs i x small in
        let e = ap (λ y. f y one other) is in
        let both : sum_by (λ y. f y one other) (take i xs) + f x one other ≡ sum_by (λ y. f y one other) (take (i + 1) xs) = omega (arith, more, e) in
        rest_chained (cells_for one other old) (sum_by (λ y. f y one other) (take i xs)) (f x one other) both (so_far.sum one other) (here.sum one other);
  }

pub gains_all : (f : Weighted → ℕ → ℕ → ℕ) (xs : List Weighted) (i : ℕ) {old new : List Item} → length xs ≤ i → GainsSum (λ one other. sum_by (λ y. f y one other) (take i xs)) old new
    → GainsSum (λ one other. sum_by (λ y. f y one other) xs) old new
gains_all f xs i {old = old} {new = new} past gains = subst (λ (ys : List Weighted). GainsSum (λ one other. sum_by (λ y. f y one other) ys) old new) (take_all i xs past) gains

pub none_of : (xs : List Weighted) → length xs ≡ 0 → xs ≡ []
none_of [] e = refl
none_of (x ∷ xs) e = absurd (omega arith)

-- ---- two lists, of which the first items are done

-- what the rests of the lists add is left, and the rests are in the order of their lowest rows
pub record Swept (window : Rect) (lesser : Lesser) (all_points all_spans points spans : List Weighted) (old new : List Item) : Type 0 where
  pub total : (one other : ℕ) → HaveOneRest (cells_for one other new + meetings_of window lesser points spans one other) (cells_for one other old + meetings_of window lesser all_points all_spans one other)
  pub points_by_row : AreByRow points
  pub spans_by_row : AreByRow spans

pub none_swept : (window : Rect) (lesser : Lesser) (points spans : List Weighted) (items : List Item) → AreByRow points → AreByRow spans → Swept window lesser points spans points spans items items
none_swept window lesser points spans items by_row also = record { total = λ one other. rest_refl (cells_for one other items + meetings_of window lesser points spans one other); points_by_row = by_row; spans_by_row = also }

module _ {window : Rect} {lesser : Lesser} {all_points all_spans points spans : List Weighted} {old mid : List Item} (s : Swept window lesser all_points all_spans points spans old mid) where
  pub point_parts : (x : Weighted) (rest : List Weighted) → points ≡ x ∷ rest → (one other : ℕ) → meetings_with window lesser x spans one other + meetings_of window lesser rest spans one other ≡ meetings_of window lesser points spans one other
  point_parts x rest e one other = sym (sum_by-cons (λ point. meetings_with window lesser point spans one other) x rest) ∙ ap (λ (ps : List Weighted). meetings_of window lesser ps spans one other) (sym e)

  pub span_parts : (x : Weighted) (rest : List Weighted) → spans ≡ x ∷ rest → (one other : ℕ) → meetings_with_span window lesser x points one other + meetings_of window lesser points rest one other ≡ meetings_of window lesser points spans one other
  span_parts x rest e one other =
      sym (sums_added (λ point. meeting window lesser point x one other) (λ point. meetings_with window lesser point rest one other) points)
      ∙ sums_agree _ (λ point. meetings_with window lesser point (x ∷ rest) one other) points (λ point among. sym (sum_by-cons (λ span. meeting window lesser point span one other) x rest))
      ∙ ap (λ (ss : List Weighted). meetings_of window lesser points ss one other) (sym e)

  pub point_done : (x : Weighted) (rest : List Weighted) {added new : List Item} → points ≡ x ∷ rest → GainsSum (meetings_with window lesser x spans) mid added → AreAlike added new
      → Swept window lesser all_points all_spans rest spans old new
  point_done x rest e gains same = record {
    total = λ one other. rest_come (cells_for one other mid) (meetings_with window lesser x spans one other) (meetings_of window lesser rest spans one other) (point_parts x rest e one other) (s.total one other) (rest_trans (same one other) (gains.sum one other));
    points_by_row = AllPairs-tail (λ (a b : Weighted). a.rect.y0 ≤ℤ b.rect.y0) x rest (subst AreByRow e s.points_by_row);
    spans_by_row = s.spans_by_row;
  }

  pub span_done : (x : Weighted) (rest : List Weighted) {added new : List Item} → spans ≡ x ∷ rest → GainsSum (meetings_with_span window lesser x points) mid added → AreAlike added new
      → Swept window lesser all_points all_spans points rest old new
  span_done x rest e gains same = record {
    total = λ one other. rest_come (cells_for one other mid) (meetings_with_span window lesser x points one other) (meetings_of window lesser points rest one other) (span_parts x rest e one other) (s.total one other) (rest_trans (same one other) (gains.sum one other));
    points_by_row = s.points_by_row;
    spans_by_row = AllPairs-tail (λ (a b : Weighted). a.rect.y0 ≤ℤ b.rect.y0) x rest (subst AreByRow e s.spans_by_row);
  }

  pub no_points_left : points ≡ [] → GainsSum (meetings_of window lesser all_points all_spans) old mid
  no_points_left e = record {
    sum = λ one other.
        let z : meetings_of window lesser points spans one other ≡ 0 = ap (λ (ps : List Weighted). meetings_of window lesser ps spans one other) e in
        let k : cells_for one other mid ≡ cells_for one other mid + meetings_of window lesser points spans one other = omega (arith, z) in
        rest_trans (rest_equal k) (s.total one other);
  }

  pub no_spans_left : spans ≡ [] → GainsSum (meetings_of window lesser all_points all_spans) old mid
  no_spans_left e = record {
    sum = λ one other.
        let none = sum_of_zeros (λ point. meetings_with window lesser point [] one other) points (λ point h. refl) in
        let z : meetings_of window lesser points spans one other ≡ 0 = ap (λ (ss : List Weighted). meetings_of window lesser points ss one other) e ∙ none in
        let k : cells_for one other mid ≡ cells_for one other mid + meetings_of window lesser points spans one other = omega (arith, z) in
        rest_trans (rest_equal k) (s.total one other);
  }

-- ---- points that begin before a column, and the others

pub parts_of_points : (window : Rect) (lesser : Lesser) (column : ℤ) (points spans : List Weighted) (one other : ℕ)
    → meetings_of window lesser (filter (begins_before column) points) spans one other + meetings_of window lesser (filter (λ point. not (begins_before column point)) points) spans one other ≡ meetings_of window lesser points spans one other
parts_of_points window lesser column points spans one other = sum_by-filter_both (begins_before column) (λ point. not (begins_before column point)) (λ x. refl) (λ point. meetings_with window lesser point spans one other) points

pub by_row_filter : (p : Weighted → Bool) (xs chosen : List Weighted) → chosen ≡ filter p xs → AreByRow xs → AreByRow chosen
by_row_filter p xs chosen e by_row = subst AreByRow (sym e) (AllPairs-filter (λ (a b : Weighted). a.rect.y0 ≤ℤ b.rect.y0) p xs by_row)

-- ---- the columns in which points begin

module _ (points : List Weighted) (i : ℕ) where
  pub begins_more : (x : Weighted) (first last first' last' : ℤ) → i < length points → x ≡ get_or points i x → first' ≤ℤ first → first' ≤ℤ x.rect.x0 → last ≤ℤ last' → x.rect.x0 ≤ℤ last'
      → All (λ (point : Weighted). (first ≤ℤ point.rect.x0) × (point.rect.x0 ≤ℤ last)) (take i points) → All (λ (point : Weighted). (first' ≤ℤ point.rect.x0) × (point.rect.x0 ≤ℤ last')) (take (i + 1) points)
  begins_more x first last first' last' small is f g h k all =
      All-more (λ (point : Weighted). (first' ≤ℤ point.rect.x0) × (point.rect.x0 ≤ℤ last')) points i x small
      (All-weaker (λ (point : Weighted). (first ≤ℤ point.rect.x0) × (point.rect.x0 ≤ℤ last)) (λ (point : Weighted). (first' ≤ℤ point.rect.x0) × (point.rect.x0 ≤ℤ last'))
      (λ point m. let a = m.0 in let b = m.1 in (omega (arith, ints), omega (arith, ints))) (take i points) all)
      (subst (λ (point : Weighted). (first' ≤ℤ point.rect.x0) × (point.rect.x0 ≤ℤ last')) is (g, k))

  pub begins_all : (first last : ℤ) → length points ≤ i → All (λ (point : Weighted). (first ≤ℤ point.rect.x0) × (point.rect.x0 ≤ℤ last)) (take i points)
      → All (λ (point : Weighted). (first ≤ℤ point.rect.x0) × (point.rect.x0 ≤ℤ last)) points
  begins_all first last past all = subst (All (λ (point : Weighted). (first ≤ℤ point.rect.x0) × (point.rect.x0 ≤ℤ last))) (take_all i points past) all

-- what was chosen of the lists, by other names
module _ (window : Rect) (lesser : Lesser) (points spans : List Weighted) where
  pub both_kinds : (first last : ℤ) (partly : List Weighted) → partly ≡ filter (meets_partly first last) spans → All (λ (point : Weighted). (first ≤ℤ point.rect.x0) × (point.rect.x0 ≤ℤ last)) points
      → (one other : ℕ) → meetings_of window lesser points (filter (crosses first last) spans) one other + meetings_of window lesser points partly one other ≡ meetings_of window lesser points spans one other
  both_kinds first last partly is within one other =
      ap (λ (ss : List Weighted). meetings_of window lesser points (filter (crosses first last) spans) one other + meetings_of window lesser points ss one other) is ∙ across_and_partly first last window lesser points spans one other within

  pub both_parts : (column : ℤ) (before behind : List Weighted) → before ≡ filter (begins_before column) points → behind ≡ filter (λ point. not (begins_before column point)) points
      → (one other : ℕ) → meetings_of window lesser before spans one other + meetings_of window lesser behind spans one other ≡ meetings_of window lesser points spans one other
  both_parts column before behind is also one other =
      ap (λ (ps : List Weighted). meetings_of window lesser ps spans one other + meetings_of window lesser behind spans one other) is
      ∙ ap (λ (ps : List Weighted). meetings_of window lesser (filter (begins_before column) points) spans one other + meetings_of window lesser ps spans one other) also
      ∙ parts_of_points window lesser column points spans one other

pub gains_no_points : (window : Rect) (lesser : Lesser) (points spans : List Weighted) (items : List Item) → points ≡ [] → GainsSum (meetings_of window lesser points spans) items items
gains_no_points window lesser points spans items e = gains_none (meetings_of window lesser points spans) items (λ one other. ap (λ (ps : List Weighted). meetings_of window lesser ps spans one other) e)
