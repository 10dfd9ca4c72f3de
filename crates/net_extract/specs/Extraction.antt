-- what becomes of layers: their nets, or the first terminal that is not on its metal
use Rattle.std.specs.Prelude.{ℕ, List, Some, length, slice_get, ◌<◌, ◌≡◌, ◌↔◌}
use Rattle.lists.specs.Words.{enumerate_from}
use Rattle.geo_core.specs.declared.plane.Cell.{Cell}
use Rattle.geo_core.specs.declared.plane.Half.{Half}
use Rattle.geo_core.specs.declared.plane.Rect.{Rect}
use Rattle.fault_model.specs.FaultNames.{IsOn, Cut, Place, IsContact, IsSameNet, IsSameIsland}
use Rattle.first_refusal.specs.Checks.{Checks}
use Rattle.first_refusal.specs.Outcomes.{Outcome}
use Rattle.map_model.specs.MapNames.{LayerMap}
use Rattle.geo_core.specs.Plane.{IsCoveredIn}
use Rattle.net_extract.specs.Cuts.{cuts_of, ends_of}
use Rattle.net_extract.specs.NetFacts.{AreNets}
use Rattle.net_extract.specs.NetLists.{NetLists, IsPieceCell, IsIslandCell, IsNetCell, IsContactCell, places_of}
use Rattle.net_extract.specs.declared.fault.NetFault.{NetFault}
use Rattle.net_extract.specs.declared.fault.NetFault.TheVariants.{TerminalOffMetal}

-- a half square on the metal with this number
abbrev pub place : ℕ → Half → Place
place metal half = record { metal = metal; half = half }

-- the pieces, contact pieces and anchors are those of what the lists cover
pub record AreNetsOf (layer_map : LayerMap) (lists : List (List Rect)) (made : NetLists) : Type 0 where
  -- the pieces of each metal have exactly its cells
  pub metals : length made.pieces ≡ length layer_map.metals
  pub covered : (metal : ℕ) (c : Cell) → metal < length layer_map.metals →
      IsPieceCell made metal c ↔ IsCoveredIn lists metal c
  -- two pieces of a metal carry the same island exactly where they are of one island
  pub islands : (metal i k : ℕ) (p q : Half) → IsOn (IsIslandCell made metal i) p → IsOn (IsIslandCell made metal k) q →
      (i ≡ k) ↔ IsSameIsland (IsCoveredIn lists metal) p q
  -- two pieces, of one metal or of two, carry the same net exactly where they are of one net
  pub nets : (m n i k : ℕ) (p q : Half) → IsOn (IsNetCell made m i) p → IsOn (IsNetCell made n k) q →
      (i ≡ k) ↔ IsSameNet (IsCoveredIn lists) (cuts_of layer_map) (place m p) (place n q)
  -- the contact pieces of each cut have exactly its contacts
  pub cuts : length made.contacts ≡ length layer_map.cuts
  pub contacts : (number : ℕ) (cut : Cut) (h : Half) → slice_get (cuts_of layer_map) number ≡ Some cut →
      IsOn (IsContactCell made number) h ↔ IsContact (IsCoveredIn lists) cut h
  -- the lower and the upper metal of each cut are the map's
  pub ends : made.ends ≡ ends_of layer_map
  -- clusters are terminals where the map says so
  pub terminals : made.clusters_are_terminals ≡ layer_map.contacts
  -- the anchors are the terminals in order
  pub anchors : places_of made ≡ layer_map.terminals
  -- contact pieces carry the islands on which they lie, and so do anchors
  pub facts : AreNets made

-- a terminal with its number: its metal covers its cell
abbrev pub IsOnItsMetal : List (List Rect) → ℕ × (ℕ × Cell) → Type 0
IsOnItsMetal lists numbered = IsCoveredIn lists numbered.1.0 numbered.1.1

-- the fault of a terminal that is not on its metal
abbrev pub off_metal : ℕ × (ℕ × Cell) → NetFault
off_metal numbered = TerminalOffMetal numbered.0

-- what layers come to: nets where all terminals are on their metals, and else the fault of the first that is not
abbrev pub ComeToNets : LayerMap → List (List Rect) → Outcome NetLists NetFault → Type 0
ComeToNets layer_map lists = Checks (IsOnItsMetal lists) (enumerate_from 0 layer_map.terminals) off_metal (AreNetsOf layer_map lists)
