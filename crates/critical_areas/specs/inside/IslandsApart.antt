-- islands of a metal, apart by how their opens are looked for
use Rattle.std.specs.Prelude.{ℕ, List, [], Contains, Some, All, length, map, slice_get, ◌≡◌, ◌<◌, ◌⊎◌}
use Rattle.geo_core.specs.declared.plane.Cell.{Cell}
use Rattle.geo_core.specs.declared.plane.Labelled.{Labelled}
use Rattle.fault_model.specs.FaultNames.{IslandLists, IsIslandOpen}
use Rattle.critical_areas.specs.RoundPieces.{IsRound}
use Rattle.critical_areas.specs.declared.apart.Apart.{Apart}

-- a defect of this side at the cell parts two anchors of one of the islands with these numbers
pub record IsOneOpen (islands : List IslandLists) (numbers : List ℕ) (side : ℕ) (c : Cell) : Type 0 where
  pub number : ℕ
  pub island : IslandLists
  pub among : Contains numbers number
  pub at : slice_get islands number ≡ Some island
  pub is_open : IsIslandOpen island side c

-- the rectangle is round the island whose number is its label
pub record IsRoundIsland (islands : List IslandLists) (hull : Labelled) : Type 0 where
  pub island : IslandLists
  pub at : slice_get islands hull.label ≡ Some island
  pub round : IsRound hull.rect island.pieces

-- each of the first so many islands has its number in the list of numbers, or as the label of a rectangle; the numbers are those
-- of islands, and the rectangles are round those with their labels
pub record AreFirstApart (islands : List IslandLists) (count : ℕ) (small : List Labelled) (large : List ℕ) : Type 0 where
  pub round : All (IsRoundIsland islands) small
  pub within : All (λ number. number < length islands) large
  pub each : (number : ℕ) → number < count → Contains (map (λ hull. hull.label) small) number ⊎ Contains large number

-- so it is for all islands
abbrev pub AreApart : List IslandLists → Apart → Type 0
AreApart islands apart = AreFirstApart islands (length islands) apart.small apart.large

-- no island is in either list
abbrev pub none_apart : Apart
none_apart = record { small = []; large = [] }
