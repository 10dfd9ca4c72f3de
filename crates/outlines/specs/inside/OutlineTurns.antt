-- the ends of an outline's vertical edges, and how often it winds round what lies above and to the right of them
use Rattle.std.specs.Prelude.{ℕ, ℤ, pos, ◌+◌, ◌≡◌, ◌≢◌, ◌<ℤ◌, ◌≤ℤ◌, ◌-ℤ◌, ◌⊎◌, Bool, true, cond, not, ◌&&◌, int_le, List, AllPairs, count_by}
use Rattle.geo_core.specs.declared.plane.Cell.{Cell}
use Rattle.outlines.specs.Outlines.{Edge, goes_up_across, goes_down_across}
use Rattle.outlines.specs.declared.turn.Turn.{Turn}

-- each column
abbrev pub everywhere : ℤ → Bool
everywhere x = true

-- each column up to this one
abbrev pub up_to : ℤ → ℤ → Bool
up_to i x = int_le x i

-- how many edges go up across the row, at columns that pass the test
abbrev pub edges_up : (ℤ → Bool) → ℤ → List Edge → ℕ
edges_up at row edges = count_by (λ edge. at edge.0.x && goes_up_across row edge) edges

-- how many go down across it
abbrev pub edges_down : (ℤ → Bool) → ℤ → List Edge → ℕ
edges_down at row edges = count_by (λ edge. at edge.0.x && goes_down_across row edge) edges

-- whether a turn rises, at a column that passes the test
abbrev pub rises_at : (ℤ → Bool) → Turn → Bool
rises_at at turn = at turn.column && turn.rises

-- whether it does not rise there
abbrev pub falls_at : (ℤ → Bool) → Turn → Bool
falls_at at turn = at turn.column && not turn.rises

-- how many turns rise, in the row or below it, at columns that pass the test
abbrev pub rises_below : (ℤ → Bool) → ℤ → List Turn → ℕ
rises_below at row turns = count_by (λ turn. rises_at at turn && int_le turn.row row) turns

-- how many do not
abbrev pub falls_below : (ℤ → Bool) → ℤ → List Turn → ℕ
falls_below at row turns = count_by (λ turn. falls_at at turn && int_le turn.row row) turns

-- The turns are the ends of the edges: as many more of them rise than fall, up to a row, as edges go up across it more than go down,
-- whichever columns count, and as many rise as fall of all.
pub record AreTurnsOf (edges : List Edge) (turns : List Turn) : Type 0 where
  pub across : (at : ℤ → Bool) (row : ℤ) →
      rises_below at row turns + edges_down at row edges ≡ falls_below at row turns + edges_up at row edges
  pub ended : (at : ℤ → Bool) → count_by (rises_at at) turns ≡ count_by (falls_at at) turns

-- the ends of the edge are added
pub record AddsTurnsOf (edge : Edge) (before after : List Turn) : Type 0 where
  pub across : (at : ℤ → Bool) (row : ℤ) →
      rises_below at row after + falls_below at row before + cond (at edge.0.x && goes_down_across row edge) 1 0
      ≡ rises_below at row before + falls_below at row after + cond (at edge.0.x && goes_up_across row edge) 1 0
  pub ended : (at : ℤ → Bool) →
      count_by (rises_at at) after + count_by (falls_at at) before ≡ count_by (rises_at at) before + count_by (falls_at at) after

-- up to each row as many rise as fall, and of all at each column
pub record AreBalanced (turns : List Turn) : Type 0 where
  pub level : (row : ℤ) → rises_below everywhere row turns ≡ falls_below everywhere row turns
  pub ended : (at : ℤ → Bool) → count_by (rises_at at) turns ≡ count_by (falls_at at) turns

-- of the turns below and to the left of the cell, not as many rise as fall
abbrev pub IsWound : List Turn → Cell → Type 0
IsWound turns c = rises_below (up_to c.i) c.j turns ≢ falls_below (up_to c.i) c.j turns

-- by how much more of the turns rise than fall, at columns that pass the test
abbrev pub turned : (ℤ → Bool) → List Turn → ℤ
turned at turns = pos (count_by (rises_at at) turns) -ℤ pos (count_by (falls_at at) turns)

-- the one turn lies in a lower row than the other, or in the same and no further to the right
abbrev pub IsNoLater : Turn → Turn → Type 0
IsNoLater a b = (a.row <ℤ b.row) ⊎ ((a.row ≡ b.row) × (a.column ≤ℤ b.column))

-- row by row, and each row from left to right
abbrev pub AreByRow : List Turn → Type 0
AreByRow turns = AllPairs IsNoLater turns
