-- what is near a tile, and so decides what defects do there
use Rattle.std.specs.Prelude.{ℕ, List, Contains, ◌≡◌, ◌≢◌}
use Rattle.geo_core.specs.Plane.{Has}
use Rattle.geo_core.specs.declared.plane.Cell.{Cell}
use Rattle.geo_core.specs.declared.plane.Half.{Half}
use Rattle.geo_core.specs.declared.plane.Labelled.{Labelled}
use Rattle.geo_core.specs.declared.plane.Rect.{Rect}
use Rattle.fault_model.specs.Halves.{IsOn, IsInFootprint}
pub use Rattle.near_index.specs.Kept.{AreKept, all_seen, kept, dropped}
pub use Rattle.near_index.specs.Near.{IsNearTile, AreNear, HasExactlyNear}

-- ---- what a defect touches

-- the footprint of a defect of side `s` at the cell has a half square of the rectangle
abbrev pub IsHit : Cell → ℕ → Rect → Type 0
IsHit c s rect = (h : Half) × IsOn (Has rect) h × IsInFootprint c s h

-- the footprint has a half square of a piece with this label
pub record HitsLabel (pieces : List Labelled) (s : ℕ) (c : Cell) (label : ℕ) : Type 0 where
  pub piece : Labelled
  pub among : Contains pieces piece
  pub labelled : piece.label ≡ label
  pub hit : IsHit c s piece.rect

-- the footprint has half squares of pieces of two labels
pub record HitsTwoLabels (pieces : List Labelled) (s : ℕ) (c : Cell) : Type 0 where
  pub one : ℕ
  pub other : ℕ
  pub hits_one : HitsLabel pieces s c one
  pub hits_other : HitsLabel pieces s c other
  pub different : one ≢ other
