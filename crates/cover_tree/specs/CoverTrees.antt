-- what contracts see of a counting tree, and what a range that is put or taken changes of it
use Rattle.std.specs.Prelude.{ℕ, zero, suc, ◌+◌, ◌-◌, ◌≡◌, ℤ, List, length, slice_index}
use Rattle.cover_tree.specs.TreeNodes.{TreeNode, IsNodeOf, IsLeastHeight, number_of, node_over, times_in_cut}
use Rattle.cover_tree.specs.Columns.{deep_width}

-- the places between which the columns lie, the height of the tree, and the counts of its nodes, by their numbers in the row
pub record Cover : Type 0 where
  pub places : List ℤ
  pub height : ℕ
  pub counts : List ℕ

-- how many columns it has
abbrev pub columns_of : Cover → ℕ
columns_of cover = length cover.places - 1

-- the node's count
abbrev pub count_of : Cover → TreeNode → ℕ
count_of cover node = slice_index cover.counts (number_of cover.height node)

-- the sum of the counts of the nodes over the column up to a level
abbrev pub depth_up_to : Cover → ℕ → ℕ → ℕ
depth_up_to cover zero column = count_of cover (node_over 0 column)
depth_up_to cover (suc level) column = count_of cover (node_over (suc level) column) + depth_up_to cover level column

-- the depth of a column: the sum of the counts of all nodes over it
abbrev pub depth_at : Cover → ℕ → ℕ
depth_at cover column = depth_up_to cover cover.height column

-- the total width of the columns of at least this depth
abbrev pub width_of_depth : ℕ → Cover → ℕ
width_of_depth least cover = deep_width cover.places (depth_at cover) least 0 (columns_of cover)

-- a tree over the columns between these places, of the least height, that has counted nothing
pub record IsNew (along : List ℤ) (cover : Cover) : Type 0 where
  pub places : cover.places ≡ along
  pub height : IsLeastHeight (columns_of cover) cover.height
  pub counts : (node : TreeNode) → IsNodeOf cover.height node → count_of cover node ≡ 0

-- the columns and the height stay
pub record KeepsColumns (old new : Cover) : Type 0 where
  pub places : new.places ≡ old.places
  pub height : new.height ≡ old.height

-- each node of the standard cut of the range counts one more, and no other count changes
pub record IsPut (low high : ℕ) (old new : Cover) : Type 0 where
  pub keeps : KeepsColumns old new
  pub counts : (node : TreeNode) → IsNodeOf old.height node →
      count_of new node ≡ count_of old node + times_in_cut old.height low high node

-- each node of the standard cut of the range counts one less, and no other count changes
pub record IsTaken (low high : ℕ) (old new : Cover) : Type 0 where
  pub keeps : KeepsColumns old new
  pub counts : (node : TreeNode) → IsNodeOf old.height node →
      count_of new node + times_in_cut old.height low high node ≡ count_of old node
