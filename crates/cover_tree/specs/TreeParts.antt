-- parts of a counting tree: a node with all that lies below it, and what the row keeps there
use Rattle.std.specs.Prelude.{ℕ, zero, suc, ◌+◌, ◌-◌, ◌*◌, ◌/◌, ◌^◌, ◌<◌, ◌≤◌, ◌≡◌, ◌⊎◌, false, ℤ, pos, List, length, slice_index_or}
use Rattle.geo_core.specs.declared.counts.Node.{Node}
use Rattle.cover_tree.specs.TreeNodes.{number_of, node_over, lies_in, times_in_cut}
use Rattle.cover_tree.specs.Columns.{deep_width}
use Rattle.cover_tree.specs.declared.parts.Part.{Part}
use Rattle.cover_tree.specs.declared.parts.Widths.{Widths}
use Rattle.cover_tree.specs.declared.parts.Change.{Change}
use Rattle.cover_tree.specs.declared.parts.Change.TheVariants.{Put, Take}

-- ---- parts

-- the part belongs to a tree of this height: it goes by the number and the columns of its highest node
pub record IsPart (height : ℕ) (part : Part) : Type 0 where
  pub place : ℕ
  pub level : part.level ≤ height
  pub among : place < 2 ^ (height - part.level)
  pub number : part.number ≡ 2 ^ (height - part.level) + place
  pub size : part.size ≡ 2 ^ part.level
  pub from : part.from ≡ place * part.size

-- the part is over the column
pub record IsUnder (part : Part) (column : ℕ) : Type 0 where
  pub from : part.from ≤ column
  pub before : column < part.from + part.size

-- a node of the level over the column is not of the part
abbrev pub IsElsewhere : Part → ℕ → ℕ → Type 0
IsElsewhere part level column = (part.level < level) ⊎ ((column < part.from) ⊎ (part.from + part.size ≤ column))

-- ---- what the row keeps

-- the node with this number, and that of the level over the column, as the row has them
abbrev pub numbered_node : List Node → ℕ → Node
numbered_node nodes number = slice_index_or nodes number (record { count = 0; once = pos 0; twice = pos 0 })

abbrev pub row_node : ℕ → List Node → ℕ → ℕ → Node
row_node height nodes level column = numbered_node nodes (number_of height (node_over level column))

-- the sum of the counts of the nodes over the column up to a level, and that of the nodes below the level alone
abbrev pub row_depth : ℕ → List Node → ℕ → ℕ → ℕ
row_depth height nodes zero column = (row_node height nodes 0 column).count
row_depth height nodes (suc level) column = (row_node height nodes (suc level) column).count + row_depth height nodes level column

abbrev pub lower_depth : ℕ → List Node → ℕ → ℕ → ℕ
lower_depth height nodes zero column = 0
lower_depth height nodes (suc level) column = row_depth height nodes level column

-- the total width of the part's columns whose depth by its nodes is at least this, and that by the nodes below its highest
abbrev pub part_width : ℕ → List ℤ → List Node → ℕ → Part → ℕ
part_width height places nodes least part = deep_width places (row_depth height nodes part.level) least part.from part.size

abbrev pub lower_width : ℕ → List ℤ → List Node → ℕ → Part → ℕ
lower_width height places nodes least part = deep_width places (lower_depth height nodes part.level) least part.from part.size

-- these are the two widths of the part, and these those by the nodes below its highest
pub record AreWidths (height : ℕ) (places : List ℤ) (nodes : List Node) (part : Part) (widths : Widths) : Type 0 where
  pub once : widths.once ≡ pos (part_width height places nodes 1 part)
  pub twice : widths.twice ≡ pos (part_width height places nodes 2 part)

pub record AreLowerWidths (height : ℕ) (places : List ℤ) (nodes : List Node) (part : Part) (widths : Widths) : Type 0 where
  pub once : widths.once ≡ pos (lower_width height places nodes 1 part)
  pub twice : widths.twice ≡ pos (lower_width height places nodes 2 part)

-- the node of the level over the column keeps the two widths of the columns that it is over
pub record KeepsWidths (height : ℕ) (places : List ℤ) (nodes : List Node) (level column : ℕ) : Type 0 where
  pub once : (row_node height nodes level column).once ≡ pos (deep_width places (row_depth height nodes level) 1
      (column / 2 ^ level * 2 ^ level) (2 ^ level))
  pub twice : (row_node height nodes level column).twice ≡ pos (deep_width places (row_depth height nodes level) 2
      (column / 2 ^ level * 2 ^ level) (2 ^ level))

-- each node of the part does, and each but the highest
abbrev pub IsKept : ℕ → List ℤ → List Node → Part → Type 0
IsKept height places nodes part = (level column : ℕ) → level ≤ part.level → IsUnder part column
    → KeepsWidths height places nodes level column

abbrev pub IsLowerKept : ℕ → List ℤ → List Node → Part → Type 0
IsLowerKept height places nodes part = (level column : ℕ) → level < part.level → IsUnder part column
    → KeepsWidths height places nodes level column

-- a node's widths, by its count, the width of its columns, and the widths by the nodes below it
abbrev pub once_by : ℕ → ℤ → ℤ → ℤ
once_by zero width once = once
once_by (suc count) width once = width

abbrev pub twice_by : ℕ → ℤ → ℤ → ℤ → ℤ
twice_by zero width once twice = twice
twice_by (suc zero) width once twice = once
twice_by (suc (suc count)) width once twice = width

-- ---- changes

-- a count changes so many times
abbrev pub IsChangedBy : Change → ℕ → ℕ → ℕ → Type 0
IsChangedBy Put times old new = new ≡ old + times
IsChangedBy Take times old new = new + times ≡ old

-- a count may change so many times
abbrev pub MayChange : Change → ℕ → ℕ → Type 0
MayChange Put zero count = Unit {0}
MayChange Put (suc times) count = count + suc times < 2 ^ 64
MayChange Take times count = times ≤ count

-- each node of the part may change as often as the cut of the range has it
abbrev pub MayChangeIn : ℕ → Change → ℕ → ℕ → List Node → Part → Type 0
MayChangeIn height change low high nodes part = (level column : ℕ) → level ≤ part.level → IsUnder part column →
    MayChange change (times_in_cut height low high (node_over level column)) (row_node height nodes level column).count

-- the part has no higher part that lies in the range
abbrev pub IsHighest : ℕ → ℕ → ℕ → Part → Type 0
IsHighest height low high part = (column : ℕ) → part.level < height → IsUnder part column
    → lies_in low high (node_over (suc part.level) column) ≡ false

-- what a change of a part has changed: each node of the part has changed as often as the cut has it, and keeps its widths,
-- and all other nodes stay
pub record IsPartChanged (height : ℕ) (places : List ℤ) (change : Change) (low high : ℕ) (part : Part) (old new : List Node) : Type 0 where
  pub length : length new ≡ length old
  pub elsewhere : (level column : ℕ) → level ≤ height → column < 2 ^ height → IsElsewhere part level column →
      row_node height new level column ≡ row_node height old level column
  pub counts : (level column : ℕ) → level ≤ part.level → IsUnder part column →
      IsChangedBy change (times_in_cut height low high (node_over level column)) (row_node height old level column).count
      (row_node height new level column).count
  pub kept : IsKept height places new part
