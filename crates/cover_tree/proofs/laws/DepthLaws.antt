-- each column of a range is under one node of its standard cut, and no other column is: so a put adds one to the depths of
-- the range's columns alone
use Rattle.std.proofs.Common.{ℕ, zero, suc, ◌+◌, ◌*◌, ◌/◌, ◌^◌, ◌<◌, ◌≤◌, ◌≡◌, refl, sym, ap, ◌∙◌, arith, inl, inr, Bool, true, false, cond, nat_le, ◌&&◌}
use Rattle.lists.proofs.Words.{cases_Bool, mul-le}
use Rattle.cover_tree.specs.TreeNodes.{node_over, parent_of, lies_in, times_in_cut}
use Rattle.cover_tree.specs.CoverTrees.{Cover, depth_up_to, depth_at, IsPut, IsTaken}
use Rattle.cover_tree.proofs.Powers.{double}
use Rattle.cover_tree.proofs.CutLaws.{parent_over, lies_true, lies_parts, times_none, times_lower, times_one}
use Rattle.cover_tree.proofs.laws.ColumnLaws.{node_over_is}

-- 1 for a column of the range, and 0 for any other
unfoldable pub in_range : ℕ → ℕ → ℕ → ℕ
in_range low high column = cond (nat_le low column && nat_le (column + 1) high) 1 0

-- a half, rounded down
half_of : (a : ℕ) → (2 * (a / 2) ≤ a) × (a + 1 ≤ 2 * (a / 2) + 2)
half_of a = (omega arith, omega arith)

module _ (height low high : ℕ) where
  -- a node whose parent lies in the range lies there too
  lies_down : (level column : ℕ) → lies_in low high (node_over (suc level) column) ≡ true → lies_in low high (node_over level column) ≡ true
  lies_down level column t =
      let at = ap (lies_in low high) (parent_over level column) ∙ t in
      let h = lies_parts height low high (parent_of (node_over level column)) at in
      let d = double level in let a = half_of (column / 2 ^ level) in
      let first = mul-le (2 * (column / 2 ^ level / 2)) (2 ^ level) (column / 2 ^ level) (2 ^ level) a.0 (omega arith) in
      let last = mul-le (column / 2 ^ level + 1) (2 ^ level) (2 * (column / 2 ^ level / 2) + 2) (2 ^ level) a.1 (omega arith) in
      let e : (column / 2 ^ level / 2) * 2 ^ suc level ≡ 2 * (column / 2 ^ level / 2) * 2 ^ level = ap (λ n. column / 2 ^ level / 2 * n) d ∙ omega arith in
      let f : (column / 2 ^ level / 2 + 1) * 2 ^ suc level ≡ (2 * (column / 2 ^ level / 2) + 2) * 2 ^ level = ap (λ n. (column / 2 ^ level / 2 + 1) * n) d ∙ omega arith in
      let from = h.0 in let before = h.1 in
      lies_true height low high (node_over level column) (omega (arith, from, e, first)) (omega (arith, before, f, last))

  held : ℕ → ℕ → ℕ
  held level column = cond (lies_in low high (node_over level column)) 1 0

  held_is : (level column : ℕ) (b : Bool) → lies_in low high (node_over level column) ≡ b → held level column ≡ cond b 1 0
  unfolding held
  held_is level column b e = ap (λ t. cond t 1 0) e

  -- the cut has a node where the node lies in the range and its parent does not
  times_step : (level column : ℕ) → level < height → times_in_cut height low high (node_over level column) + held (suc level) column ≡ held level column
  times_step level column less = elim (cases_Bool (lies_in low high (node_over (suc level) column))) [
    | inl t ↦
        let none = times_lower height low high level column less t in
        let up = held_is (suc level) column true t in let here = held_is level column true (lies_down level column t) in
        omega (arith, none, up, here)
    | inr f ↦
        let up = held_is (suc level) column false f in
        elim (cases_Bool (lies_in low high (node_over level column))) [
          | inl t ↦ let once = times_one height low high level column (omega arith) t (λ l. f) in let here = held_is level column true t in omega (arith, once, up, here)
          | inr g ↦ let none = times_none height low high (node_over level column) g in let here = held_is level column false g in omega (arith, none, up, here)
        ]
  ]

  times_top : (column : ℕ) → times_in_cut height low high (node_over height column) ≡ held height column
  times_top column = elim (cases_Bool (lies_in low high (node_over height column))) [
    | inl t ↦ let once = times_one height low high height column (omega arith) t (λ l. absurd (omega arith)) in let here = held_is height column true t in omega (arith, once, here)
    | inr g ↦ let none = times_none height low high (node_over height column) g in let here = held_is height column false g in omega (arith, none, here)
  ]

  -- how many nodes over the column up to a level the cut has
  pub times_up_to : ℕ → ℕ → ℕ
  times_up_to zero column = times_in_cut height low high (node_over 0 column)
  times_up_to (suc level) column = times_in_cut height low high (node_over (suc level) column) + times_up_to level column

  times_below : (level column : ℕ) → level < height → times_up_to level column + held (suc level) column ≡ held 0 column
  unfolding times_up_to
  times_below zero column less = times_step 0 column less
  times_below (suc level) column less = let rest = times_below level column (omega arith) in let here = times_step (suc level) column less in omega (arith, rest, here)

  times_whole : (level column : ℕ) → level ≡ height → times_up_to level column ≡ held 0 column
  unfolding times_up_to
  times_whole zero column top = ap (λ l. times_in_cut height low high (node_over l column)) top ∙ times_top column ∙ ap (λ l. held l column) (sym top)
  times_whole (suc level) column top =
      let rest = times_below level column (omega arith) in
      let here = ap (λ l. times_in_cut height low high (node_over l column)) top ∙ times_top column ∙ ap (λ l. held l column) (sym top) in
      omega (arith, rest, here)

  held_single : (column : ℕ) → held 0 column ≡ in_range low high column
  unfolding held in_range
  held_single column =
      let e : column / 2 ^ 0 * 2 ^ 0 ≡ column = omega arith in
      let f : (column / 2 ^ 0 + 1) * 2 ^ 0 ≡ column + 1 = omega arith in
      ap (λ n. cond (nat_le low n && nat_le ((column / 2 ^ 0 + 1) * 2 ^ 0) high) 1 0) e ∙ ap (λ n. cond (nat_le low column && nat_le n high) 1 0) f

  -- each column of the range is under one node of its cut, and no other column is under any
  pub times_over : (column : ℕ) → times_up_to height column ≡ in_range low high column
  times_over column = times_whole height column refl ∙ held_single column

-- ---- the depths after a put and a take

put_up_to : (low high : ℕ) (old new : Cover) → IsPut low high old new → (level column : ℕ) → level ≤ old.height → column < 2 ^ old.height
    → depth_up_to new level column ≡ depth_up_to old level column + times_up_to old.height low high level column
unfolding times_up_to
put_up_to low high old new put zero column low_level small = put.counts (node_over 0 column) (node_over_is old.height 0 column low_level small)
put_up_to low high old new put (suc level) column low_level small =
    let here = put.counts (node_over (suc level) column) (node_over_is old.height (suc level) column low_level small) in
    let rest = put_up_to low high old new put level column (omega arith) small in
    omega (arith, here, rest)

pub put_depth : (low high : ℕ) (old new : Cover) → IsPut low high old new → (column : ℕ) → column < 2 ^ old.height → depth_at new column ≡ depth_at old column + in_range low high column
put_depth low high old new put column small =
    ap (λ level. depth_up_to new level column) put.keeps.height ∙ put_up_to low high old new put old.height column (omega arith) small
    ∙ ap (λ n. depth_at old column + n) (times_over old.height low high column)

take_up_to : (low high : ℕ) (old new : Cover) → IsTaken low high old new → (level column : ℕ) → level ≤ old.height → column < 2 ^ old.height
    → depth_up_to new level column + times_up_to old.height low high level column ≡ depth_up_to old level column
unfolding times_up_to
take_up_to low high old new taken zero column low_level small = taken.counts (node_over 0 column) (node_over_is old.height 0 column low_level small)
take_up_to low high old new taken (suc level) column low_level small =
    let here = taken.counts (node_over (suc level) column) (node_over_is old.height (suc level) column low_level small) in
    let rest = take_up_to low high old new taken level column (omega arith) small in
    omega (arith, here, rest)

pub take_depth : (low high : ℕ) (old new : Cover) → IsTaken low high old new → (column : ℕ) → column < 2 ^ old.height → depth_at new column + in_range low high column ≡ depth_at old column
take_depth low high old new taken column small =
    ap (λ level. depth_up_to new level column + in_range low high column) taken.keeps.height
    ∙ ap (λ n. depth_up_to new old.height column + n) (sym (times_over old.height low high column))
    ∙ take_up_to low high old new taken old.height column (omega arith) small
