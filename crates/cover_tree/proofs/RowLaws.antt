-- the row of a whole tree, and what contracts see of it
use Rattle.std.proofs.Common.{ℕ, zero, suc, ◌+◌, ◌-◌, ◌*◌, ◌%◌, ◌^◌, ◌<◌, ◌≤◌, ◌≡◌, refl, sym, ap, ◌∙◌, subst, arith, inl, inr, List, length, get_or, min, Bool, true, false, cond, ℤ, pos, ◌-ℤ◌, unsigned_abs, nat_le}
use Rattle.lists.proofs.Words.{cases_lt, cond_both, ints, get_or_past, length-replicate}
use Rattle.std.proofs.Math.ListN.{get_or-map}
use Rattle.std.proofs.lemmas.List.{get_or-replicate}
use Rattle.std.proofs.lemmas.Nat.{shl-shr, shl_below, shl_whole, one_shl}
use Rattle.geo_core.specs.declared.counts.Node.{Node}
use Rattle.geo_core.specs.NodeLists.{zeros}
use Rattle.cover_tree.specs.TreeNodes.{TreeNode, IsNodeOf, node_over, number_of, first_of, times_in_cut}
use Rattle.cover_tree.specs.Columns.{place_at, width_of, deep_width}
use Rattle.cover_tree.specs.CoverTrees.{count_of, depth_up_to, width_of_depth}
use Rattle.cover_tree.specs.TreeParts.{IsPart, IsUnder, numbered_node, row_depth, IsKept, MayChange, MayChangeIn, IsChangedBy, IsPartChanged}
use Rattle.cover_tree.specs.TreeRows.{cover_of, IsTreeRow}
use Rattle.cover_tree.specs.declared.parts.Change.{Change}
use Rattle.cover_tree.specs.declared.parts.Change.TheVariants.{Put, Take}
use Rattle.cover_tree.specs.declared.parts.Part.{Part}
use Rattle.cover_tree.specs.declared.parts.Widths.{Widths}
use Rattle.cover_tree.proofs.laws.ColumnLaws.{node_over_is}
use Rattle.cover_tree.proofs.Totals.{total-+, total-none, deep_width-same, deep_width-none}

-- ---- nodes and counts

-- each node is the one of its level over its first column
pub node_is : (node : TreeNode) → node_over node.level (first_of node) ≡ node
node_is node = let at : ℕ → TreeNode = λ place. record { level = node.level; place = place } in ap at (shl-shr node.place node.level)

pub first_fits : (height : ℕ) (node : TreeNode) → IsNodeOf height node → first_of node < 2 ^ height
first_fits height node n =
    let l = n.level in let e : height - node.level + node.level ≡ height = omega arith in
    subst (λ h. first_of node < 2 ^ h) e (shl_below node.place (height - node.level) node.level n.place)

module _ (places : List ℤ) (height : ℕ) (nodes : List Node) where
  pub count_is : (node : TreeNode) → count_of (cover_of places height nodes) node ≡ (numbered_node nodes (number_of height node)).count
  count_is node = get_or-map (λ (n : Node). n.count) nodes (number_of height node) (record { count = 0; once = pos 0; twice = pos 0 })

  depth_up_to_is : (level column : ℕ) → depth_up_to (cover_of places height nodes) level column ≡ row_depth height nodes level column
  depth_up_to_is zero column = count_is (node_over 0 column)
  depth_up_to_is (suc level) column =
      let here = count_is (node_over (suc level) column) in
      let rest = depth_up_to_is level column in
      omega (arith, here, rest)

  -- columns past the last are of no width
  no_width : (column : ℕ) → length places - 1 ≤ column → width_of places column ≡ 0
  no_width column past =
      let e : min (suc column) (length places - 1) ≡ min column (length places - 1) = omega arith in
      ap (λ k. unsigned_abs (get_or places k (pos 0) -ℤ place_at places column)) e ∙ nothing (place_at places column)
    where
      nothing : (z : ℤ) → unsigned_abs (z -ℤ z) ≡ 0
      nothing z = let e : z -ℤ z ≡ pos 0 = omega (arith, ints) in ap unsigned_abs e

  pub width_is_whole : (least : ℕ) → length places - 1 ≤ 2 ^ height → deep_width places (row_depth height nodes height) least 0 (2 ^ height) ≡ width_of_depth least (cover_of places height nodes)
  width_is_whole least few =
      let columns = length places - 1 in
      let e : 2 ^ height ≡ columns + (2 ^ height - columns) = omega arith in
      let behind : deep_width places (row_depth height nodes height) least (0 + columns) (2 ^ height - columns) ≡ 0
      = total-none _ (0 + columns) (2 ^ height - columns) (λ k from before. narrow k (omega arith)) in
      let whole = ap (deep_width places (row_depth height nodes height) least 0) e ∙ total-+ _ 0 columns (2 ^ height - columns) in
      let front : deep_width places (row_depth height nodes height) least 0 columns ≡ width_of_depth least (cover_of places height nodes)
      = deep_width-same places _ _ least 0 columns (λ k from before. sym (depth_up_to_is height k)) in
      omega (arith, whole, behind, front)
    where
      narrow : (k : ℕ) → length places - 1 ≤ k → cond (nat_le least (row_depth height nodes height k)) (width_of places k) 0 ≡ 0
      narrow k past = cond_both (nat_le least (row_depth height nodes height k)) (width_of places k) 0 (λ w. w ≡ 0) (λ e. no_width k past) (λ e. refl)

-- ---- the root

pub root_is : (height : ℕ) (root : Part) → root.number ≡ 1 → root.level ≡ height → root.from ≡ 0 → root.size ≡ 2 ^ height → IsPart height root
root_is height root number level from size =
    let e : height - root.level ≡ 0 = omega arith in
    let one : 2 ^ (height - root.level) ≡ 1 = ap (λ n. 2 ^ n) e in
    record {
      place = 0;
      level = omega arith;
      among = omega arith;
      number = omega arith;
      size = size ∙ ap (λ n. 2 ^ n) (sym level);
      from = omega arith;
    }

pub root_under : (height column : ℕ) (root : Part) → root.from ≡ 0 → root.size ≡ 2 ^ height → column < 2 ^ height → IsUnder root column
root_under height column root from size small = record { from = omega arith; before = omega arith }

pub under_root : (height column : ℕ) (root : Part) → root.from ≡ 0 → root.size ≡ 2 ^ height → IsUnder root column → column < 2 ^ height
under_root height column root from size under = let b = under.before in omega arith

-- ---- a new tree

pub zero_read : (n k : ℕ) → numbered_node (zeros n) k ≡ record { count = 0; once = pos 0; twice = pos 0 }
zero_read n k = elim (cases_lt k n) [
  | inl less ↦ get_or-replicate n k _ _ less
  | inr past ↦ get_or_past (zeros n) k _ (let e : length (zeros n) ≡ n = length-replicate n _ in omega arith)
]

zero_depth : (height n level column : ℕ) → row_depth height (zeros n) level column ≡ 0
zero_depth height n zero column = ap (λ (node : Node). node.count) (zero_read n (number_of height (node_over 0 column)))
zero_depth height n (suc level) column =
    let here = ap (λ (node : Node). node.count) (zero_read n (number_of height (node_over (suc level) column))) in
    let rest = zero_depth height n level column in
    omega (arith, here, rest)

zero_width : (places : List ℤ) (height n level least from count : ℕ) → 0 < least → deep_width places (row_depth height (zeros n) level) least from count ≡ 0
zero_width places height n level least from count some = deep_width-none places (row_depth height (zeros n) level) least from count (λ k a b. let e = zero_depth height n level k in omega arith)

pub new_row : (places : List ℤ) (height n : ℕ) (widths : Widths) → n ≡ 2 * 2 ^ height → widths.once ≡ pos 0 → widths.twice ≡ pos 0 → IsTreeRow places height (zeros n) widths
new_row places height n widths e once twice = record {
  length = length-replicate n _ ∙ e;
  kept = λ level column low small. record {
    once = ap (λ (node : Node). node.once) (zero_read n (number_of height (node_over level column))) ∙ ap pos (sym (zero_width places height n level 1 _ _ (omega arith)));
    twice = ap (λ (node : Node). node.twice) (zero_read n (number_of height (node_over level column))) ∙ ap pos (sym (zero_width places height n level 2 _ _ (omega arith)));
  };
  once = once ∙ ap pos (sym (zero_width places height n height 1 _ _ (omega arith)));
  twice = twice ∙ ap pos (sym (zero_width places height n height 2 _ _ (omega arith)));
}

pub new_count : (places : List ℤ) (height n : ℕ) (node : TreeNode) → count_of (cover_of places height (zeros n)) node ≡ 0
new_count places height n node = count_is places height (zeros n) node ∙ ap (λ (m : Node). m.count) (zero_read n (number_of height node))

-- what the code shifts
pub two_shifted : (height : ℕ) → height < 62 → 2 * 2 ^ height % 2 ^ 64 ≡ 2 * 2 ^ height
two_shifted height small = shl_whole 2 2 height 64 (omega arith) (omega arith)

pub one_shifted : (height : ℕ) → height < 62 → 1 * 2 ^ height % 2 ^ 64 ≡ 2 ^ height
one_shifted height small = one_shl height 64 (omega arith)

-- ---- a change

-- a node that the cut has may change by one, and any other needs nothing
pub may_put : (in_cut : Bool) (count : ℕ) → (in_cut ≡ true → count < 18446744073709551615) → MayChange Put (cond in_cut 1 0) count
may_put true count room = let h = room refl in omega arith
may_put false count room = tt

pub may_take : (in_cut : Bool) (count : ℕ) → (in_cut ≡ true → 1 ≤ count) → MayChange Take (cond in_cut 1 0) count
may_take true count was_put = was_put refl
may_take false count was_put = omega arith

module _ (places : List ℤ) (height : ℕ) (change : Change) (low high : ℕ) (root : Part) (number : root.number ≡ 1) (level : root.level ≡ height) (from : root.from ≡ 0)
    (size : root.size ≡ 2 ^ height) where
  pub root_kept : (nodes : List Node) (widths : Widths) → IsTreeRow places height nodes widths → IsKept height places nodes root
  root_kept nodes widths row l column low_level under = row.kept l column (omega arith) (under_root height column root from size under)

  pub root_may : (nodes : List Node) → ((node : TreeNode) → IsNodeOf height node → MayChange change (times_in_cut height low high node) (count_of (cover_of places height nodes) node))
      → MayChangeIn height change low high nodes root
  root_may nodes may l column low_level under =
      subst (MayChange change (times_in_cut height low high (node_over l column))) (count_is places height nodes (node_over l column))
      (may (node_over l column) (node_over_is height l column (omega arith) (under_root height column root from size under)))

  pub root_counts : (old new : List Node) → IsPartChanged height places change low high root old new
      → (node : TreeNode) → IsNodeOf height node → IsChangedBy change (times_in_cut height low high node) (count_of (cover_of places height old) node) (count_of (cover_of places height new) node)
  root_counts old new changed node n =
      let l = n.level in
      let at = changed.counts node.level (first_of node) (omega arith) (root_under height (first_of node) root from size (first_fits height node n)) in
      let here = subst (λ m. IsChangedBy change (times_in_cut height low high m) (numbered_node old (number_of height m)).count (numbered_node new (number_of height m)).count) (node_is node) at in
      subst (λ m. IsChangedBy change (times_in_cut height low high node) m (count_of (cover_of places height new) node)) (sym (count_is places height old node))
      (subst (IsChangedBy change (times_in_cut height low high node) (numbered_node old (number_of height node)).count) (sym (count_is places height new node)) here)

  pub root_row : (old new : List Node) (widths : Widths) → length old ≡ 2 * 2 ^ height → IsPartChanged height places change low high root old new
      → widths.once ≡ pos (deep_width places (row_depth height new root.level) 1 root.from root.size) → widths.twice ≡ pos (deep_width places (row_depth height new root.level) 2 root.from root.size)
      → IsTreeRow places height new widths
  root_row old new widths long changed once twice = record {
    length = changed.length ∙ long;
    kept = λ l column low_level small. changed.kept l column (omega arith) (root_under height column root from size small);
    once = once ∙ at 1;
    twice = twice ∙ at 2;
  }
    where
      at : (least : ℕ) → pos (deep_width places (row_depth height new root.level) least root.from root.size) ≡ pos (deep_width places (row_depth height new height) least 0 (2 ^ height))
      at least = ap (λ l. pos (deep_width places (row_depth height new l) least root.from root.size)) level
          ∙ ap (λ a. pos (deep_width places (row_depth height new height) least a root.size)) from
          ∙ ap (λ n. pos (deep_width places (row_depth height new height) least 0 n)) size
