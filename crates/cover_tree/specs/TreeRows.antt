-- what a counting tree keeps in its row
use Rattle.std.specs.Prelude.{ℕ, ◌*◌, ◌^◌, ◌<◌, ◌≤◌, ◌≡◌, ℤ, pos, List, length, map}
use Rattle.geo_core.specs.declared.counts.Node.{Node}
use Rattle.cover_tree.specs.Columns.{deep_width}
use Rattle.cover_tree.specs.CoverTrees.{Cover}
use Rattle.cover_tree.specs.TreeParts.{KeepsWidths, row_depth}
use Rattle.cover_tree.specs.declared.parts.Widths.{Widths}

-- what contracts see of it
abbrev pub cover_of : List ℤ → ℕ → List Node → Cover
cover_of places height nodes = record { places = places; height = height; counts = map (λ node. node.count) nodes }

-- the row has all nodes, each keeps its two widths, and the tree keeps those of all columns
pub record IsTreeRow (places : List ℤ) (height : ℕ) (nodes : List Node) (widths : Widths) : Type 0 where
  pub length : length nodes ≡ 2 * 2 ^ height
  pub kept : (level column : ℕ) → level ≤ height → column < 2 ^ height → KeepsWidths height places nodes level column
  pub once : widths.once ≡ pos (deep_width places (row_depth height nodes height) 1 0 (2 ^ height))
  pub twice : widths.twice ≡ pos (deep_width places (row_depth height nodes height) 2 0 (2 ^ height))
