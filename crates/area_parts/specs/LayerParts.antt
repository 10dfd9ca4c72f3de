-- the islands with terminals of each metal, and the boxes of the via clusters of each cut
use Rattle.std.specs.Prelude.{ℕ, List, [], length, slice_index_or, ◌≡◌, ◌<◌}
use Rattle.geo_core.specs.declared.plane.Rect.{Rect}
use Rattle.fault_model.specs.FaultNames.{IslandLists}
use Rattle.net_extract.specs.AnchoredIslands.{AreAnchoredIslands}
use Rattle.net_extract.specs.NetLists.{NetLists}
use Rattle.via_clusters.specs.Clusters.{AreClusterBoxes}

-- one list for each of so many things, which go by their numbers
pub record AreOneEach {X : Type 0} (Is : ℕ → List X → Type 0) (count : ℕ) (lists : List (List X)) : Type 0 where
  pub one_each : length lists ≡ count
  pub each : (number : ℕ) → number < count → Is number (slice_index_or lists number [])

-- the islands of each of so many metals that have two anchors or more
abbrev pub AreAllIslands : NetLists → ℕ → List (List IslandLists) → Type 0
AreAllIslands nets = AreOneEach (AreAnchoredIslands nets)

-- the boxes of the clusters of each of so many cuts
abbrev pub AreAllBoxes : NetLists → ℕ → List (List Rect) → Type 0
AreAllBoxes nets = AreOneEach (AreClusterBoxes nets)
