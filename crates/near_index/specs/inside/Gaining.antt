-- lists that gain what is near a tile
use Rattle.std.specs.Prelude.{ℕ, List, ◌++◌, ◌≡◌}
use Rattle.geo_core.specs.declared.plane.Rect.{Rect}
use Rattle.near_index.specs.Near.{AreNear}

-- a list gains at its end those of the things that are near the tile, in order
pub record GainsNear {T : Type 0} (rect_of : T → Rect) (tile : Rect) (reach : ℕ) (things old new : List T) : Type 0 where
  pub gained : List T
  pub are_near : AreNear rect_of tile reach things gained
  pub new_is : new ≡ old ++ gained
