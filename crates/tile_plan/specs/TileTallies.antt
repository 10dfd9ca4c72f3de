-- tallies over tiles, one after the other
use Rattle.std.specs.Prelude.{ℕ, ◌<◌, ◌≡◌, List, Some, length, slice_get}
use Rattle.geo_core.specs.declared.plane.Cell.{Cell}
use Rattle.geo_core.specs.declared.plane.Rect.{Rect}
use Rattle.fault_model.specs.Areas.{Tally, cells_of}
use Rattle.tile_plan.specs.Tiles.{tile_count, IsInTile, IsTile}
use Rattle.tile_plan.specs.declared.tiles.TilePlan.{TilePlan}

-- the cell lies in one of the first `k` tiles
abbrev pub IsInFirstTiles : TilePlan → ℕ → Cell → Type 0
IsInFirstTiles plan k c = (j : ℕ) × (j < k) × IsInTile plan j c

-- `P` holds of `n` cells of the first `k` tiles
pub record IsTallyOfFirst (P : Cell → Type 0) (plan : TilePlan) (k n : ℕ) : Type 0 where
  pub tally : Tally (λ c. P c × IsInFirstTiles plan k c) (cells_of plan.window) n

-- `P` holds of `n` cells of the tile with the number `k`
pub record IsTallyOfTile (P : Cell → Type 0) (plan : TilePlan) (k n : ℕ) : Type 0 where
  pub tile : Rect
  pub is_tile : IsTile plan k tile
  pub tally : Tally P (cells_of tile) n

-- one number for each tile, in order: of how many of its cells `P` holds
pub record AreTalliesOfTiles (P : Cell → Type 0) (plan : TilePlan) (amounts : List ℕ) : Type 0 where
  pub one_each : length amounts ≡ tile_count plan
  pub each : (k n : ℕ) → slice_get amounts k ≡ Some n → IsTallyOfTile P plan k n
