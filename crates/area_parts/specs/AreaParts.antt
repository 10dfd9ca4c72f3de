-- what the areas of a layout are counted from: what is asked, the pieces of each metal, labelled by their nets, its islands
-- with terminals, and the boxes of each cut's via clusters
use Rattle.std.specs.Prelude.{ℕ, List, [], Some, slice_get, Contains, length, slice_index_or, ◌+◌, ◌≡◌, ◌<◌, ◌≤◌, ◌↔◌}
use Rattle.lists.specs.Words.{enumerate_from}
use Rattle.first_refusal.specs.Checks.{Checks}
use Rattle.first_refusal.specs.Outcomes.{Outcome}
use Rattle.geo_core.specs.Plane.{Has, IsCoveredIn}
use Rattle.geo_core.specs.declared.plane.Cell.{Cell}
use Rattle.geo_core.specs.declared.plane.Half.{Half}
use Rattle.geo_core.specs.declared.plane.Labelled.{Labelled}
use Rattle.geo_core.specs.declared.plane.Rect.{Rect}
use Rattle.fault_model.specs.FaultNames.{IsOn, Cut, IsSameNetOn, IsViaBlock, IsViasOpen, IslandLists}
use Rattle.map_model.specs.MapNames.{LayerMap}
use Rattle.net_extract.specs.Cuts.{cuts_of, terminal_cuts_of}
use Rattle.net_extract.specs.Extraction.{AreNetsOf, IsOnItsMetal, off_metal}
use Rattle.net_extract.specs.NetLists.{NetLists}
use Rattle.net_extract.specs.declared.fault.NetFault.{NetFault}
use Rattle.net_extract.specs.declared.pieces.Piece.{Piece}
use Rattle.questions.specs.Questions.{questions}
use Rattle.severing.specs.Severing.{IsSomeOpen}
use Rattle.via_clusters.specs.Blocks.{CoversSomeBox}
use Rattle.area_parts.specs.LayerParts.{AreAllBoxes, AreAllIslands}
use Rattle.area_parts.specs.declared.parts.Parts.{Parts}

-- one of the pieces has the cell
pub record IsInPieces (pieces : List Labelled) (c : Cell) : Type 0 where
  pub piece : Labelled
  pub among : Contains pieces piece
  pub has : Has piece.rect c

-- the pieces have exactly the cells of the metal `m`, and two of them have the same label exactly where they are of one net
pub record ArePiecesOf (covers : ℕ → Cell → Type 0) (cuts : List Cut) (m : ℕ) (pieces : List Labelled) : Type 0 where
  pub cover : (c : Cell) → IsInPieces pieces c ↔ covers m c
  pub nets : (one other : Labelled) (p q : Half) → Contains pieces one → Contains pieces other →
      IsOn (Has one.rect) p → IsOn (Has other.rect) q → (one.label ≡ other.label) ↔ IsSameNetOn covers cuts m p q

-- the lists are the pieces of each metal
pub record AreMetalPieces (layer_map : LayerMap) (lists : List (List Rect)) (metals : List (List Labelled)) : Type 0 where
  pub one_each : length metals ≡ length layer_map.metals
  pub pieces : (metal : ℕ) → metal < length layer_map.metals →
      ArePiecesOf (IsCoveredIn lists) (cuts_of layer_map) metal (slice_index_or metals metal [])

-- a defect of any side parts two anchors of one of the islands exactly where it parts two terminals of the metal: cells that are
-- named, or via clusters of these cuts
abbrev pub AreIslandsOf : (ℕ → Cell → Type 0) → List Cut → (Cell → Type 0) → ℕ → List IslandLists → Type 0
AreIslandsOf covers cuts named metal islands = (side : ℕ) (c : Cell) → IsSomeOpen islands side c ↔ IsViasOpen covers cuts named metal side c

-- a defect of any radius covers one of the boxes exactly where it blocks a via of the cut
abbrev pub AreBoxesOf : (ℕ → Cell → Type 0) → Cut → List Rect → Type 0
AreBoxesOf covers cut boxes = (radius : ℕ) (c : Cell) → 1 ≤ radius
    → CoversSomeBox boxes radius c ↔ IsViaBlock covers cut (radius + radius) c

-- of the nets that the lists come to, the islands are those with two terminals or more, each once, and the boxes are those of the
-- via clusters, one for each
pub record AreEachOnce (layer_map : LayerMap) (lists : List (List Rect)) (parts : Parts) : Type 0 where
  pub nets : NetLists
  pub are_nets : AreNetsOf layer_map lists nets
  pub islands : AreAllIslands nets (length layer_map.metals) parts.islands
  pub boxes : AreAllBoxes nets (length layer_map.cuts) parts.cuts

-- the parts are those of this layer map and of what the lists cover
pub record ArePartsOf (layer_map : LayerMap) (lists : List (List Rect)) (parts : Parts) : Type 0 where
  pub asked : parts.questions ≡ questions layer_map
  pub one_each : length parts.metals ≡ length layer_map.metals
  pub pieces : (metal : ℕ) → metal < length layer_map.metals →
      ArePiecesOf (IsCoveredIn lists) (cuts_of layer_map) metal (slice_index_or parts.metals metal [])
  pub islands : (metal : ℕ) → metal < length layer_map.metals →
      AreIslandsOf (IsCoveredIn lists) (terminal_cuts_of layer_map) (λ d. Contains layer_map.terminals (metal, d)) metal
      (slice_index_or parts.islands metal [])
  pub boxes : (number : ℕ) (cut : Cut) → slice_get (cuts_of layer_map) number ≡ Some cut →
      AreBoxesOf (IsCoveredIn lists) cut (slice_index_or parts.cuts number [])
  pub each_once : AreEachOnce layer_map lists parts

-- what layers come to: parts where all terminals are on their metals, and else the fault of the first that is not
abbrev pub ComeToParts : LayerMap → List (List Rect) → Outcome Parts NetFault → Type 0
ComeToParts layer_map lists =
    Checks (IsOnItsMetal lists) (enumerate_from 0 layer_map.terminals) off_metal (ArePartsOf layer_map lists)

-- the same with the pieces of metals alone
abbrev pub ComeToPieces : LayerMap → List (List Rect) → Outcome (List (List Labelled)) NetFault → Type 0
ComeToPieces layer_map lists =
    Checks (IsOnItsMetal lists) (enumerate_from 0 layer_map.terminals) off_metal (AreMetalPieces layer_map lists)

-- a piece with its net as its label
abbrev pub by_net : Piece → Labelled
by_net piece = record { rect = piece.rect; label = piece.net }
