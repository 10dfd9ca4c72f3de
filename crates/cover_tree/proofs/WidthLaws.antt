-- the widths that nodes keep
use Rattle.std.proofs.Common.{ℕ, zero, suc, ◌+◌, ◌*◌, ◌/◌, ◌^◌, ◌<◌, ◌≤◌, ◌≡◌, refl, sym, ap, ◌∙◌, arith, List, length, set, get_or-set_same, get_or-set_other, ℤ, pos, Some, slice_get, ◌+ℤ◌, FitsSigned, w64}
use Rattle.lists.proofs.Words.{ints, get_or_from_slice_get}
use Rattle.geo_core.specs.declared.counts.Node.{Node}
use Rattle.cover_tree.specs.Columns.{width_of, total, deep_width}
use Rattle.cover_tree.specs.TreeNodes.{node_over, number_of}
use Rattle.cover_tree.specs.TreeParts.{IsPart, IsUnder, numbered_node, row_node, row_depth, lower_depth, part_width, lower_width, AreWidths, AreLowerWidths, KeepsWidths, IsKept, once_by, twice_by}
use Rattle.cover_tree.specs.declared.parts.Part.{Part}
use Rattle.cover_tree.specs.declared.parts.Widths.{Widths}
use Rattle.cover_tree.proofs.Powers.{block_of}
use Rattle.cover_tree.proofs.PartLaws.{AreHalves, block_is, first_under, number_here, number_lower, under_fits}
use Rattle.cover_tree.proofs.Totals.{total-+, deep_width-le, deep_width-same, deep_width-all, deep_width-none, deep_width-more}

-- ---- depths

pub depth_is : (height : ℕ) (nodes : List Node) (level column : ℕ) → row_depth height nodes level column ≡ (row_node height nodes level column).count + lower_depth height nodes level column
depth_is height nodes zero column = omega arith
depth_is height nodes (suc level) column = refl

-- rows that have the same counts over a column have the same depths there
pub row_depth-same : (height : ℕ) (a b : List Node) (level column : ℕ) → ((j : ℕ) → j ≤ level → (row_node height a j column).count ≡ (row_node height b j column).count)
    → row_depth height a level column ≡ row_depth height b level column
row_depth-same height a b zero column same = same 0 (omega arith)
row_depth-same height a b (suc level) column same =
    let here = same (suc level) (omega arith) in
    let rest : row_depth height a level column ≡ row_depth height b level column = row_depth-same height a b level column (λ j low. same j (omega arith)) in
    cc

pub lower_depth-same : (height : ℕ) (a b : List Node) (level column : ℕ) → ((j : ℕ) → j < level → (row_node height a j column).count ≡ (row_node height b j column).count)
    → lower_depth height a level column ≡ lower_depth height b level column
lower_depth-same height a b zero column same = refl
lower_depth-same height a b (suc level) column same = row_depth-same height a b level column (λ j low. same j (omega arith))

-- ---- widths by counts

module _ (places : List ℤ) (from size : ℕ) (depth lower : ℕ → ℕ) where
  pub once_settled : (count : ℕ) → ((k : ℕ) → from ≤ k → k < from + size → depth k ≡ count + lower k)
      → once_by count (pos (total (width_of places) from size)) (pos (deep_width places lower 1 from size)) ≡ pos (deep_width places depth 1 from size)
  once_settled zero is = ap pos (sym (deep_width-more places depth lower 0 1 from size is))
  once_settled (suc count) is = ap pos (sym (deep_width-all places depth 1 from size (λ k a b. let e = is k a b in omega arith)))

  pub twice_settled : (count : ℕ) → ((k : ℕ) → from ≤ k → k < from + size → depth k ≡ count + lower k)
      → twice_by count (pos (total (width_of places) from size)) (pos (deep_width places lower 1 from size)) (pos (deep_width places lower 2 from size)) ≡ pos (deep_width places depth 2 from size)
  twice_settled zero is = ap pos (sym (deep_width-more places depth lower 0 2 from size is))
  twice_settled (suc zero) is = ap pos (sym (deep_width-more places depth lower 1 1 from size is))
  twice_settled (suc (suc count)) is = ap pos (sym (deep_width-all places depth 2 from size (λ k a b. let e = is k a b in omega arith)))

-- ---- halves

module _ (height : ℕ) (places : List ℤ) (nodes : List Node) where
  lower_is : (least : ℕ) (part left right : Part) → AreHalves height part left right
      → lower_width height places nodes least part ≡ part_width height places nodes least left + part_width height places nodes least right
  lower_is least part left right h =
      let l : part.level ≡ suc left.level = let e = h.levels.0 in omega arith in
      let r : left.level ≡ right.level = let e = h.levels.0 in let f = h.levels.1 in omega arith in
      let depth : lower_depth height nodes part.level ≡ row_depth height nodes left.level = ap (lower_depth height nodes) l in
      ap (λ d. deep_width places d least part.from part.size) depth
      ∙ ap (λ n. deep_width places (row_depth height nodes left.level) least part.from n) h.size
      ∙ total-+ _ part.from left.size right.size
      ∙ ap (λ n. deep_width places (row_depth height nodes left.level) least n left.size + deep_width places (row_depth height nodes left.level) least (n + left.size) right.size) (sym h.left_from)
      ∙ ap (λ n. part_width height places nodes least left + deep_width places (row_depth height nodes left.level) least n right.size) (ap (λ n. n + left.size) h.left_from ∙ sym h.right_from)
      ∙ ap (λ n. part_width height places nodes least left + deep_width places (row_depth height nodes n) least right.from right.size) r

  pub both_lower : (part left right : Part) → AreHalves height part left right → (a b c : Widths) → AreWidths height places nodes left a → AreWidths height places nodes right b
      → c.once ≡ a.once +ℤ b.once → c.twice ≡ a.twice +ℤ b.twice → AreLowerWidths height places nodes part c
  both_lower part left right h a b c s t once twice = record {
    once = once ∙ ap (λ z. z +ℤ b.once) s.once ∙ ap (λ z. pos (part_width height places nodes 1 left) +ℤ z) t.once ∙ ap pos (sym (lower_is 1 part left right h));
    twice = twice ∙ ap (λ z. z +ℤ b.twice) s.twice ∙ ap (λ z. pos (part_width height places nodes 2 left) +ℤ z) t.twice ∙ ap pos (sym (lower_is 2 part left right h));
  }

  -- what the highest node of a part keeps are its widths
  pub widths_kept : (part : Part) → IsPart height part → KeepsWidths height places nodes part.level part.from → (widths : Widths)
      → widths.once ≡ (row_node height nodes part.level part.from).once → widths.twice ≡ (row_node height nodes part.level part.from).twice → AreWidths height places nodes part widths
  widths_kept part p keeps widths once twice = record {
    once = once ∙ keeps.once ∙ at 1;
    twice = twice ∙ keeps.twice ∙ at 2;
  }
    where
      at : (least : ℕ) → pos (deep_width places (row_depth height nodes part.level) least (part.from / 2 ^ part.level * 2 ^ part.level) (2 ^ part.level)) ≡ pos
          (part_width height places nodes least part)
      at least = ap (λ n. pos (deep_width places (row_depth height nodes part.level) least n (2 ^ part.level))) (block_is height part p part.from (first_under height part p))
          ∙ ap (λ n. pos (deep_width places (row_depth height nodes part.level) least part.from n)) (sym p.size)

  pub keeps_from_widths : (part : Part) → IsPart height part → (column : ℕ) → IsUnder part column → (widths : Widths) → AreWidths height places nodes part widths
      → (row_node height nodes part.level column).once ≡ widths.once → (row_node height nodes part.level column).twice ≡ widths.twice → KeepsWidths height places nodes part.level column
  keeps_from_widths part p column under widths are once twice = record {
    once = once ∙ are.once ∙ at 1;
    twice = twice ∙ are.twice ∙ at 2;
  }
    where
      at : (least : ℕ) → pos (part_width height places nodes least part) ≡ pos (deep_width places (row_depth height nodes part.level) least (column / 2 ^ part.level * 2 ^ part.level) (2 ^ part.level))
      at least = ap (λ n. pos (deep_width places (row_depth height nodes part.level) least part.from n)) p.size
          ∙ ap (λ n. pos (deep_width places (row_depth height nodes part.level) least n (2 ^ part.level))) (sym (block_is height part p column under))

-- where a row has the nodes of another under a node, it keeps the same widths there
pub keeps_carried : (height : ℕ) (places : List ℤ) (a b : List Node) (level column : ℕ)
    → ((j other : ℕ) → j ≤ level → column / 2 ^ level * 2 ^ level ≤ other → other < column / 2 ^ level * 2 ^ level + 2 ^ level → row_node height b j other ≡ row_node height a j other)
    → KeepsWidths height places a level column → KeepsWidths height places b level column
keeps_carried height places a b level column same keeps = record {
  once = ap (λ (n : Node). n.once) here ∙ keeps.once ∙ at 1;
  twice = ap (λ (n : Node). n.twice) here ∙ keeps.twice ∙ at 2;
}
  where
    here : row_node height b level column ≡ row_node height a level column
    here = let o = block_of level column in same level column (omega arith) o.0 o.1

    at : (least : ℕ) → pos (deep_width places (row_depth height a level) least (column / 2 ^ level * 2 ^ level) (2 ^ level)) ≡ pos
        (deep_width places (row_depth height b level) least (column / 2 ^ level * 2 ^ level) (2 ^ level))
    at least = ap pos (deep_width-same places _ _ least _ _ (λ k from before. row_depth-same height a b level k (λ j low. ap (λ (n : Node). n.count) (sym (same j k low from before)))))

-- ---- no width is large

-- the two halves together are no wider than all columns of the part, so their sum fits
pub sum_fits : (height : ℕ) (places : List ℤ) (nodes : List Node) (least : ℕ) (part left right : Part) → AreHalves height part left right → (a b : ℤ)
    → a ≡ pos (part_width height places nodes least left) → b ≡ pos (part_width height places nodes least right) → total (width_of places) part.from part.size < 2 ^ 33 → FitsSigned w64 (a +ℤ b)
sum_fits height places nodes least part left right h a b e f small =
    let sum = lower_is height places nodes least part left right h in
    let less = deep_width-le places (lower_depth height nodes part.level) least part.from part.size in
    sum_fits_at a b (part_width height places nodes least left) (part_width height places nodes least right) e f (omega arith)
  where
    sum_fits_at : (a b : ℤ) (m n : ℕ) → a ≡ pos m → b ≡ pos n → m + n < 2 ^ 33 → FitsSigned w64 (a +ℤ b)
    sum_fits_at a b m n e f small = omega (arith, ints)

-- ---- what is read of a row

module _ (height : ℕ) (places : List ℤ) (nodes : List Node) (part : Part) (p : IsPart height part) where
  pub node_read : (node : Node) → slice_get nodes part.number ≡ Some node → (column : ℕ) → IsUnder part column → row_node height nodes part.level column ≡ node
  node_read node e column under = ap (numbered_node nodes) (number_here height part p column under) ∙ get_or_from_slice_get nodes part.number node _ e

  -- the widths that a part's highest node keeps are the part's
  pub widths_read : IsKept height places nodes part → (node : Node) → slice_get nodes part.number ≡ Some node → (widths : Widths) → widths.once ≡ node.once → widths.twice ≡ node.twice
      → AreWidths height places nodes part widths
  widths_read kept node read widths once twice =
      let first = first_under height part p in
      let e = node_read node read part.from first in
      widths_kept height places nodes part p (kept part.level part.from (omega arith) first) widths (once ∙ ap (λ (n : Node). n.once) (sym e)) (twice ∙ ap (λ (n : Node). n.twice) (sym e))

-- ---- what is written

-- a row in which a part's highest node alone is written has the part's widths by the counts below it as before
pub lower_written : (height : ℕ) (places : List ℤ) (part : Part) (p : IsPart height part) (mid new : List Node) (node : Node) → new ≡ set mid part.number node
    → (least : ℕ) → lower_width height places mid least part ≡ lower_width height places new least part
lower_written height places part p mid new node written least = deep_width-same places _ _ least part.from part.size (λ k from before.
    let under : IsUnder part k = record { from = from; before = before } in
    lower_depth-same height mid new part.level k (λ j less.
    ap (λ (n : Node). n.count) (sym (ap (λ ns. row_node height ns j k) written ∙ get_or-set_other mid part.number (number_of height (node_over j k)) node _
    (number_lower height part p j k less (under_fits height part p k under))))))

pub widths_written : (height : ℕ) (places : List ℤ) (part : Part) (p : IsPart height part) (mid new : List Node) (count : ℕ) (halves widths : Widths) (width : ℤ) → part.number < length mid
    → new ≡ set mid part.number (record { count = count; once = widths.once; twice = widths.twice })
    → AreLowerWidths height places mid part halves → width ≡ pos (total (width_of places) part.from part.size)
    → widths.once ≡ once_by count width halves.once → widths.twice ≡ twice_by count width halves.once halves.twice
    → AreWidths height places new part widths
widths_written height places part p mid new count halves widths width within written lower wide once twice =
    let lower_once : halves.once ≡ pos (lower_width height places new 1 part) = lower.once ∙ ap pos (lower_written height places part p mid new _ written 1) in
    let lower_twice : halves.twice ≡ pos (lower_width height places new 2 part) = lower.twice ∙ ap pos (lower_written height places part p mid new _ written 2) in
    record {
      once = once ∙ ap (λ z. once_by count z halves.once) wide ∙ ap (λ z. once_by count (pos (total (width_of places) part.from part.size)) z) lower_once
          ∙ once_settled places part.from part.size (row_depth height new part.level) (lower_depth height new part.level) count depth;
      twice = twice ∙ ap (λ z. twice_by count z halves.once halves.twice) wide
          ∙ ap (λ z. twice_by count (pos (total (width_of places) part.from part.size)) z halves.twice) lower_once
          ∙ ap (λ z. twice_by count (pos (total (width_of places) part.from part.size)) (pos (lower_width height places new 1 part)) z) lower_twice
          ∙ twice_settled places part.from part.size (row_depth height new part.level) (lower_depth height new part.level) count depth;
    }
  where
    depth : (k : ℕ) → part.from ≤ k → k < part.from + part.size → row_depth height new part.level k ≡ count + lower_depth height new part.level k
    depth k from before =
        let under : IsUnder part k = record { from = from; before = before } in
        let node : row_node height new part.level k ≡ record { count = count; once = widths.once; twice = widths.twice }
        = ap (λ ns. row_node height ns part.level k) written
        ∙ ap (λ n. numbered_node (set mid part.number (record { count = count; once = widths.once; twice = widths.twice })) n) (number_here height part p k under)
        ∙ get_or-set_same mid part.number _ _ within in
        depth_is height new part.level k ∙ ap (λ (n : Node). n.count + lower_depth height new part.level k) node

-- a single column has nothing below it
pub lower_nothing : (height : ℕ) (places : List ℤ) (nodes : List Node) (part : Part) → part.level ≡ 0 → (widths : Widths) → widths.once ≡ pos 0 → widths.twice ≡ pos 0
    → AreLowerWidths height places nodes part widths
lower_nothing height places nodes part single widths once twice = record { once = once ∙ ap pos (sym (none 1 (omega arith))); twice = twice ∙ ap pos (sym (none 2 (omega arith))) }
  where
    none : (least : ℕ) → 0 < least → lower_width height places nodes least part ≡ 0
    none least some = ap (λ l. deep_width places (lower_depth height nodes l) least part.from part.size) single ∙ deep_width-none places (λ k. 0) least part.from part.size (λ k from before. some)
