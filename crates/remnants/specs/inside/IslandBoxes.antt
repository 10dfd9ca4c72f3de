-- the loose boxes of an island
use Rattle.std.specs.Prelude.{ℕ, List, Option, Some, None, ◌≡◌, ◌⊎◌, ◌↔◌}
use Rattle.geo_core.specs.Plane.{IsInUnion}
use Rattle.geo_core.specs.declared.plane.Half.{Half}
use Rattle.geo_core.specs.declared.plane.Rect.{Rect}
use Rattle.fault_model.specs.FaultNames.{IsOn, IslandLists, IsInAnchor}
use Rattle.fault_model.specs.declared.island.Spot.{Spot}
use Rattle.remnants.specs.declared.parts.Loose.{Loose}
use Rattle.remnants.specs.inside.Parting.{HasLooseOf}

-- the half square is of the rectangles, and the terminal, or none, is the one that has these
pub record IsOfRects (rects : List Rect) (owner terminal : Option ℕ) (h : Half) : Type 0 where
  pub of_terminal : owner ≡ terminal
  pub lies : IsOn (IsInUnion rects) h

-- the half square is of the spot whose number the terminal is
abbrev pub IsOfSpots : List Spot → Option ℕ → Half → Type 0
IsOfSpots spots None h = ⊥
IsOfSpots spots (Some number) h = IsInAnchor spots number h

-- the new boxes have what the old ones have, and these half squares, each under its terminal or under none
abbrev pub GainsHalves : (Option ℕ → Half → Type 0) → List Loose → List Loose → Type 0
GainsHalves more old new = (terminal : Option ℕ) (h : Half) → HasLooseOf new terminal h ↔ (HasLooseOf old terminal h ⊎ more terminal h)

-- the half square is one of the anchor's, or of the pieces
abbrev pub IsOfIsland : IslandLists → Option ℕ → Half → Type 0
IsOfIsland island None h = IsOn (IsInUnion island.pieces) h
IsOfIsland island (Some number) h = IsInAnchor island.anchors number h

-- the boxes have the half squares of the pieces, and of each anchor under its number
abbrev pub AreIslandBoxes : IslandLists → List Loose → Type 0
AreIslandBoxes island loose = (terminal : Option ℕ) (h : Half) → HasLooseOf loose terminal h ↔ IsOfIsland island terminal h
