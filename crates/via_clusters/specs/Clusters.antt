-- via clusters as rectangles
use Rattle.std.specs.Prelude.{ℕ, List, Contains, ◌≡◌, ◌↔◌}
use Rattle.lists.specs.Words.{AllZip}
use Rattle.lists.specs.Differing.{AreDifferent}
use Rattle.geo_core.specs.Plane.{Has}
use Rattle.geo_core.specs.declared.plane.Cell.{Cell}
use Rattle.geo_core.specs.declared.plane.Rect.{Rect}
use Rattle.fault_model.specs.FaultNames.{IsBoundsOf}
use Rattle.net_extract.specs.ContactGroups.{IsGroupCell}
use Rattle.net_extract.specs.NetLists.{NetLists, contacts_of}
use Rattle.net_extract.specs.declared.pieces.ContactPiece.{ContactPiece}

-- a contact piece of the cut with this number that carries these two islands has the cell
abbrev pub IsClusterCell : NetLists → ℕ → ℕ × ℕ → Cell → Type 0
IsClusterCell nets cut = IsGroupCell (contacts_of nets cut)

-- some contact piece of the cut carries these two islands
abbrev pub IsCluster : NetLists → ℕ → ℕ × ℕ → Type 0
IsCluster nets cut islands = (c : Cell) × IsClusterCell nets cut islands c

-- one rectangle for each cluster of the cut: the least that has the cluster's cells
pub record AreClusterBoxes (nets : NetLists) (cut : ℕ) (boxes : List Rect) : Type 0 where
  pub clusters : List (ℕ × ℕ)
  pub once : AreDifferent clusters
  pub exactly : (islands : ℕ × ℕ) → Contains clusters islands ↔ IsCluster nets cut islands
  pub each : AllZip (λ islands box. IsBoundsOf (IsClusterCell nets cut islands) box) clusters boxes
