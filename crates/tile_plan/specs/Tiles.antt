-- the tiles of a window
use Rattle.std.specs.Prelude.{ℕ, ◌*◌, ◌/◌, ◌%◌, ◌^◌, ◌<◌, ◌≤◌, ◌≡◌, ◌↔◌, length}
use Rattle.geo_core.specs.Plane.{Has}
use Rattle.geo_core.specs.declared.plane.Cell.{Cell}
use Rattle.geo_core.specs.declared.plane.Rect.{Rect}
use Rattle.fault_model.specs.Areas.{cells_of}
use Rattle.tile_plan.specs.TilesAlong.{AreTilesAlong, IsInTileAlong}
use Rattle.tile_plan.specs.declared.tiles.TilePlan.{TilePlan}

-- how many tiles there are
abbrev pub tile_count : TilePlan → ℕ
tile_count plan = plan.columns * plan.rows

-- the cell of the window lies in the tile with the number `k`: in the column `k % columns` and the row `k / columns` of tiles,
-- counted from the window's lower left
pub record IsInTile (plan : TilePlan) (k : ℕ) (c : Cell) : Type 0 where
  pub in_window : Has plan.window c
  pub across : IsInTileAlong plan.window.x0 plan.edge (k % plan.columns) c.i
  pub up : IsInTileAlong plan.window.y0 plan.edge (k / plan.columns) c.j

-- the rectangle has the cells of the tile with the number `k`
pub record IsTile (plan : TilePlan) (k : ℕ) (tile : Rect) : Type 0 where
  pub cells : (c : Cell) → Has tile c ↔ IsInTile plan k c

-- the number is the greatest of the numbers of cells of the tiles
pub record IsGreatestTile (plan : TilePlan) (n : ℕ) : Type 0 where
  pub reached : (k : ℕ) × (tile : Rect) × (k < tile_count plan) × IsTile plan k tile × (length (cells_of tile) ≡ n)
  pub most : (k : ℕ) (tile : Rect) → k < tile_count plan → IsTile plan k tile → length (cells_of tile) ≤ n

-- with this edge there are at most 1,000,000 tiles
pub record HasFewTiles (window : Rect) (edge : ℕ) : Type 0 where
  pub columns : ℕ
  pub rows : ℕ
  pub across : AreTilesAlong window.x0 window.x1 edge columns
  pub up : AreTilesAlong window.y0 window.y1 edge rows
  pub few : columns * rows ≤ 1000000

-- the edge is the given one times the least power of two with which there are at most 1,000,000 tiles
pub record IsDoubledEdge (window : Rect) (given edge : ℕ) : Type 0 where
  pub doublings : ℕ
  pub edge_is : edge ≡ given * 2 ^ doublings
  pub few : HasFewTiles window edge
  pub least : (fewer : ℕ) → fewer < doublings → HasFewTiles window (given * 2 ^ fewer) → ⊥
