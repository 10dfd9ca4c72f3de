-- which terminals are parted where some half squares are removed
use Rattle.std.specs.Prelude.{ℕ, List, Contains, length, ◌<◌, ◌≢◌}
use Rattle.geo_core.specs.Plane.{IsInUnion}
use Rattle.geo_core.specs.declared.plane.Cell.{Cell}
use Rattle.geo_core.specs.declared.plane.Half.{Half}
use Rattle.fault_model.specs.FaultNames.{IsOn, Walk, IslandLists, IsInAnchor, IsIslandOpen}

-- the half square is of the metal, and not removed
abbrev pub IsLeft : (Half → Type 0) → (Half → Type 0) → Half → Type 0
IsLeft on removed h = on h × (removed h → ⊥)

-- Two of so many terminals, which go by their numbers, are parted: no walk on what is left of the metal joins a half square
-- of the one to a half square of the other. A terminal is a set of half squares. All pairs of terminals are looked at: two
-- that are joined to a third one may be parted, where the third one itself is in pieces. It is asked of islands alone, whose
-- terminals are all joined as long as nothing is removed.
pub record IsParted (on : Half → Type 0) (count : ℕ) (terminal : ℕ → Half → Type 0) (removed : Half → Type 0) : Type 0 where
  pub one : ℕ
  pub other : ℕ
  pub one_is : one < count
  pub other_is : other < count
  pub different : one ≢ other
  pub apart : (p q : Half) → terminal one p → terminal other q → Walk (IsLeft on removed) p q → ⊥

-- two anchors of the island are parted where these half squares are removed
abbrev pub IsSevered : IslandLists → (Half → Type 0) → Type 0
IsSevered island removed = IsParted (IsOn (IsInUnion island.pieces)) (length island.anchors) (IsInAnchor island.anchors) removed

-- a defect of this side at the cell parts two anchors of some island
pub record IsSomeOpen (islands : List IslandLists) (side : ℕ) (c : Cell) : Type 0 where
  pub island : IslandLists
  pub among : Contains islands island
  pub is_open : IsIslandOpen island side c
