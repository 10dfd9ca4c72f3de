-- the nodes of a counting tree, and the standard cut of a range of its columns
use Rattle.std.specs.Prelude.{ℕ, suc, ◌+◌, ◌-◌, ◌*◌, ◌/◌, ◌^◌, ◌<◌, ◌≤◌, Bool, ◌&&◌, ◌||◌, not, nat_le, if◌then◌else◌}

-- a node: its level, counted from the single columns up, and its place among the nodes of its level, counted from the left
pub record TreeNode : Type 0 where
  pub level : ℕ
  pub place : ℕ

-- a tree of this height has the node: the root alone at the highest level, and twice as many at each level below
pub record IsNodeOf (height : ℕ) (node : TreeNode) : Type 0 where
  pub level : node.level ≤ height
  pub place : node.place < 2 ^ (height - node.level)

-- its number in the row: the root's is 1, and the halves of number `k` have the numbers `2k` and `2k + 1`
abbrev pub number_of : ℕ → TreeNode → ℕ
number_of height node = 2 ^ (height - node.level) + node.place

-- the first of the columns that it is over, and the column past the last of them
abbrev pub first_of : TreeNode → ℕ
first_of node = node.place * 2 ^ node.level

abbrev pub end_of : TreeNode → ℕ
end_of node = (node.place + 1) * 2 ^ node.level

-- the node of a level that is over the column
abbrev pub node_over : ℕ → ℕ → TreeNode
node_over level column = record { level = level; place = column / 2 ^ level }

-- the node of which this one is a half
abbrev pub parent_of : TreeNode → TreeNode
parent_of node = record { level = suc node.level; place = node.place / 2 }

-- all columns that it is over lie in the range from `low` to before `high`
abbrev pub lies_in : ℕ → ℕ → TreeNode → Bool
lies_in low high node = nat_le low (first_of node) && nat_le (end_of node) high

-- it belongs to the standard cut of the range: it lies in the range, and is the root, or its parent does not lie there
abbrev pub is_in_cut : ℕ → ℕ → ℕ → TreeNode → Bool
is_in_cut height low high node = lies_in low high node && (nat_le height node.level || not (lies_in low high (parent_of node)))

-- how often the standard cut has the node: once, or not at all
abbrev pub times_in_cut : ℕ → ℕ → ℕ → TreeNode → ℕ
times_in_cut height low high node = if is_in_cut height low high node then 1 else 0

-- the height of the least tree with so many columns at its lowest level
pub record IsLeastHeight (columns height : ℕ) : Type 0 where
  pub enough : columns ≤ 2 ^ height
  pub least : (other : ℕ) → columns ≤ 2 ^ other → height ≤ other
