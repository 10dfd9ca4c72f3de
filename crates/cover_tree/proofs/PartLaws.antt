-- parts of a tree: the numbers and the columns of their nodes, and their halves
use Rattle.std.proofs.Common.{ℕ, suc, ◌+◌, ◌-◌, ◌*◌, ◌/◌, ◌^◌, ◌<◌, ◌≤◌, ◌≡◌, ◌≢◌, sym, ap, ◌∙◌, subst, arith, inl, inr, ◌⊎◌}
use Rattle.lists.proofs.Words.{cases_lt, pow_pos, pow-add, mul-le, shr-shr}
use Rattle.cover_tree.specs.TreeNodes.{node_over, number_of, first_of, end_of}
use Rattle.cover_tree.specs.TreeParts.{IsPart, IsUnder, IsElsewhere}
use Rattle.cover_tree.specs.declared.parts.Part.{Part}
use Rattle.cover_tree.proofs.Powers.{double, pow_grows, same_power, quotient_in, block_of, place_among}

-- ---- numbers

module _ (height : ℕ) (part : Part) (p : IsPart height part) where
  first_is : part.from ≡ p.place * 2 ^ part.level
  first_is = p.from ∙ ap (λ n. p.place * n) p.size

  -- a column is under the part where the node of its level over the column has the part's place
  pub place_is : (column : ℕ) → IsUnder part column → column / 2 ^ part.level ≡ p.place
  place_is column under =
      let e = first_is in let s = p.size in let a = under.from in let b = under.before in
      quotient_in p.place (2 ^ part.level) column (omega arith) (omega arith)

  pub under_from_place : (column : ℕ) → column / 2 ^ part.level ≡ p.place → IsUnder part column
  under_from_place column e =
      let b = block_of part.level column in let f = first_is in let s = p.size in
      let g : column / 2 ^ part.level * 2 ^ part.level ≡ p.place * 2 ^ part.level = ap (λ n. n * 2 ^ part.level) e in
      let low = b.0 in let high = b.1 in
      record { from = omega arith; before = omega arith }

  -- the block of the node over a column of the part begins with the part
  pub block_is : (column : ℕ) → IsUnder part column → column / 2 ^ part.level * 2 ^ part.level ≡ part.from
  block_is column under = ap (λ n. n * 2 ^ part.level) (place_is column under) ∙ sym first_is

  pub number_here : (column : ℕ) → IsUnder part column → number_of height (node_over part.level column) ≡ part.number
  number_here column under = ap (λ n. 2 ^ (height - part.level) + n) (place_is column under) ∙ sym p.number

  pub first_under : IsUnder part part.from
  first_under = let s = p.size in let n = pow_pos part.level in record { from = omega arith; before = omega arith }

  -- the part's number belongs to no other node
  only_number : (level column : ℕ) → level ≤ height → column < 2 ^ height → number_of height (node_over level column) ≡ part.number → (level ≡ part.level) × IsUnder part column
  only_number level column low small e =
      let q = place_among height level column low small in
      let f : 2 ^ (height - level) + column / 2 ^ level ≡ 2 ^ (height - part.level) + p.place = e ∙ p.number in
      let g = same_power (height - level) (height - part.level) (column / 2 ^ level) p.place q p.among f in
      let l = p.level in
      let same : level ≡ part.level = omega arith in
      let h : 2 ^ (height - level) ≡ 2 ^ (height - part.level) = ap (λ n. 2 ^ n) g in
      let k : column / 2 ^ level ≡ p.place = omega arith in
      (same, under_from_place column (ap (λ n. column / 2 ^ n) (sym same) ∙ k))

  pub number_elsewhere : (level column : ℕ) → level ≤ height → column < 2 ^ height → IsElsewhere part level column → number_of height (node_over level column) ≢ part.number
  number_elsewhere level column low small away e =
      let h = only_number level column low small e in
      let same = h.0 in let a = h.1.from in let b = h.1.before in
      elim away [ inl more ↦ absurd (omega arith) | inr (inl less) ↦ absurd (omega arith) | inr (inr past) ↦ absurd (omega arith) ]

  pub number_lower : (level column : ℕ) → level < part.level → column < 2 ^ height → number_of height (node_over level column) ≢ part.number
  number_lower level column less small e = let l = p.level in let h = only_number level column (omega arith) small e in let same = h.0 in omega arith

  -- numbers and columns are those of the row and of the tree
  power_splits : 2 ^ height ≡ 2 ^ (height - part.level) * 2 ^ part.level
  power_splits = let l = p.level in let e : height ≡ height - part.level + part.level = omega arith in ap (λ n. 2 ^ n) e ∙ pow-add 2 (height - part.level) part.level

  pub number_fits : part.number < 2 * 2 ^ height
  number_fits =
      let n = p.number in let a = p.among in let e = power_splits in let one = pow_pos part.level in
      let more = mul-le (2 ^ (height - part.level)) 1 (2 ^ (height - part.level)) (2 ^ part.level) (omega arith) (omega arith) in
      omega arith

  pub end_fits : part.from + part.size ≤ 2 ^ height
  end_fits =
      let f = first_is in let s = p.size in let e = power_splits in let a = p.among in
      let more = mul-le (p.place + 1) (2 ^ part.level) (2 ^ (height - part.level)) (2 ^ part.level) (omega arith) (omega arith) in
      omega arith

  pub under_fits : (column : ℕ) → IsUnder part column → column < 2 ^ height
  under_fits column under = let e = end_fits in let b = under.before in omega arith

  -- the columns of a node of the part are under the part
  same_place : (level x y : ℕ) → level ≤ part.level → x / 2 ^ level ≡ y / 2 ^ level → x / 2 ^ part.level ≡ y / 2 ^ part.level
  same_place level x y low e =
      let f : level + (part.level - level) ≡ part.level = omega arith in
      let up : (z : ℕ) → z / 2 ^ level / 2 ^ (part.level - level) ≡ z / 2 ^ part.level = λ z. shr-shr z level (part.level - level) ∙ ap (λ n. z / 2 ^ n) f in
      sym (up x) ∙ ap (λ n. n / 2 ^ (part.level - level)) e ∙ up y

  pub block_under : (level column other : ℕ) → level ≤ part.level → IsUnder part column → column / 2 ^ level * 2 ^ level ≤ other → other < column / 2 ^ level * 2 ^ level + 2 ^ level
      → IsUnder part other
  block_under level column other low under from before =
      let same = quotient_in (column / 2 ^ level) (2 ^ level) other from before in
      under_from_place other (same_place level other column low same ∙ place_is column under)

  -- so its first column lies in the part, and its end does not lie behind the part's
  pub node_within : (level column : ℕ) → level ≤ part.level → IsUnder part column → (part.from ≤ first_of (node_over level column)) × (end_of (node_over level column) ≤ part.from + part.size)
  node_within level column low under =
      let n = pow_pos level in
      let first = block_under level column (column / 2 ^ level * 2 ^ level) low under (omega arith) (omega arith) in
      let last = block_under level column (column / 2 ^ level * 2 ^ level + 2 ^ level - 1) low under (omega arith) (omega arith) in
      let a = first.from in let b = last.before in
      (a, omega arith)

-- ---- halves

-- the two parts are the halves of a part
pub record AreHalves (height : ℕ) (part left right : Part) : Type 0 where
  pub levels : (left.level + 1 ≡ part.level) × (right.level + 1 ≡ part.level)
  pub size : part.size ≡ left.size + right.size
  pub left_from : left.from ≡ part.from
  pub right_from : right.from ≡ part.from + left.size
  pub left_part : IsPart height left
  pub right_part : IsPart height right

-- a power of two that is not 1, halved
half_size : (level size : ℕ) → size ≡ 2 ^ suc level → (size / 2 ≡ 2 ^ level) × (size ≡ 2 * (size / 2))
half_size level size e = let d = double level in (omega arith, omega arith)

half_part : (height level number size from place half : ℕ) (part : Part) → suc level ≤ height → half < 2 → place < 2 ^ (height - suc level) → number ≡ 2 ^ (height - suc level) + place
    → size ≡ 2 ^ level → from ≡ place * (2 * size)
    → part.number ≡ 2 * number + half → part.level ≡ level → part.size ≡ size → part.from ≡ from + half * size → IsPart height part
half_part height level number size from place half part low less among is two from_is number_eq level_eq size_eq from_eq =
    let up : height - level ≡ suc (height - suc level) = omega arith in
    let d = ap (λ n. 2 ^ n) up ∙ double (height - suc level) in
    let level_up : 2 ^ (height - part.level) ≡ 2 ^ (height - level) = ap (λ n. 2 ^ (height - n)) level_eq in
    record {
      place = 2 * place + half;
      level = omega arith;
      among = omega (arith, d, level_up);
      number = omega (arith, d, level_up);
      size = size_eq ∙ two ∙ ap (λ n. 2 ^ n) (sym level_eq);
      from = from_eq ∙ ap (λ n. n + half * size) from_is ∙ moved ∙ ap (λ n. (2 * place + half) * n) (sym size_eq);
    }
  where
    moved : place * (2 * size) + half * size ≡ (2 * place + half) * size
    moved = omega arith

halved_at : (height level : ℕ) (part left right : Part) → IsPart height part → part.level ≡ suc level
    → left.number ≡ 2 * part.number → left.level ≡ part.level - 1 → left.from ≡ part.from → left.size ≡ part.size / 2
    → right.number ≡ 2 * part.number + 1 → right.level ≡ part.level - 1 → right.from ≡ part.from + part.size / 2 → right.size ≡ part.size / 2
    → AreHalves height part left right
halved_at height level part left right p up ln ll lf ls rn rl rf rs =
    let low = p.level in
    let among : p.place < 2 ^ (height - suc level) = subst (λ n. p.place < 2 ^ (height - n)) up p.among in
    let number : part.number ≡ 2 ^ (height - suc level) + p.place = p.number ∙ ap (λ n. 2 ^ (height - n) + p.place) up in
    let h = half_size level part.size (p.size ∙ ap (λ n. 2 ^ n) up) in
    let from : part.from ≡ p.place * (2 * (part.size / 2)) = p.from ∙ ap (λ n. p.place * n) h.1 in
    record {
      levels = (omega arith, omega arith);
      size = omega (arith, h.1);
      left_from = lf;
      right_from = omega arith;
      left_part = half_part height level part.number (part.size / 2) part.from p.place 0 left (omega arith) (omega arith) among number h.0 from (omega arith) (omega arith) ls (omega arith);
      right_part = half_part height level part.number (part.size / 2) part.from p.place 1 right (omega arith) (omega arith) among number h.0 from rn (omega arith) rs (omega arith);
    }

pub halved : (height : ℕ) (part left right : Part) → IsPart height part → 0 < part.level
    → left.number ≡ 2 * part.number → left.level ≡ part.level - 1 → left.from ≡ part.from → left.size ≡ part.size / 2
    → right.number ≡ 2 * part.number + 1 → right.level ≡ part.level - 1 → right.from ≡ part.from + part.size / 2 → right.size ≡ part.size / 2
    → AreHalves height part left right
halved height part left right p some = let e : part.level ≡ suc (part.level - 1) = omega arith in halved_at height (part.level - 1) part left right p e

module _ (height : ℕ) (part left right : Part) (h : AreHalves height part left right) where
  -- each column of the part is under one of its halves
  pub under_half : (column : ℕ) → IsUnder part column → IsUnder left column ⊎ IsUnder right column
  under_half column under =
      let a = under.from in let b = under.before in let s = h.size in let l = h.left_from in let r = h.right_from in
      elim (cases_lt column (left.from + left.size)) [
        | inl less ↦ inl (record { from = omega arith; before = less })
        | inr more ↦ inr (record { from = omega arith; before = omega arith })
      ]

  pub left_under : (column : ℕ) → IsUnder left column → IsUnder part column
  left_under column under = let a = under.from in let b = under.before in let s = h.size in let l = h.left_from in record { from = omega arith; before = omega arith }

  pub right_under : (column : ℕ) → IsUnder right column → IsUnder part column
  right_under column under = let a = under.from in let b = under.before in let s = h.size in let r = h.right_from in record { from = omega arith; before = omega arith }

  -- what is not of the part is not of its halves, and what is of one half is not of the other
  pub left_elsewhere : (level column : ℕ) → IsElsewhere part level column → IsElsewhere left level column
  left_elsewhere level column away =
      let s = h.size in let l = h.left_from in let v = h.levels.0 in
      elim away [ inl up ↦ inl (omega arith) | inr (inl before) ↦ inr (inl (omega arith)) | inr (inr behind) ↦ inr (inr (omega arith)) ]

  pub right_elsewhere : (level column : ℕ) → IsElsewhere part level column → IsElsewhere right level column
  right_elsewhere level column away =
      let s = h.size in let l = h.right_from in let v = h.levels.1 in
      elim away [ inl up ↦ inl (omega arith) | inr (inl before) ↦ inr (inl (omega arith)) | inr (inr behind) ↦ inr (inr (omega arith)) ]

  pub left_not_right : (level column : ℕ) → IsUnder left column → IsElsewhere right level column
  left_not_right level column under = let b = under.before in let l = h.left_from in let r = h.right_from in inr (inl (omega arith))

  pub right_not_left : (level column : ℕ) → IsUnder right column → IsElsewhere left level column
  right_not_left level column under = let a = under.from in let l = h.left_from in let r = h.right_from in inr (inr (omega arith))

-- ---- room

-- in a tree that is not too high, no number and no column is large
pub room_of : (height : ℕ) (part : Part) → IsPart height part → height < 62 → (part.number < 2 ^ 62) × (part.from + part.size < 2 ^ 62)
room_of height part p small =
    let n = number_fits height part p in let e = end_fits height part p in
    let top = pow_grows height 62 small in let d = double height in
    (omega arith, omega arith)
