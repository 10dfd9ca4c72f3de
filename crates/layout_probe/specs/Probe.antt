-- the probe of a cell: the nearest two nets of each metal of a layer map
use Rattle.std.specs.Prelude.{ℕ, List, Vec, ◌≡◌}
use Rattle.lists.specs.Words.{AllZip, Global, enumerate_from}
use Rattle.first_refusal.specs.Checks.{Checks}
use Rattle.first_refusal.specs.Outcomes.{Outcome}
use Rattle.geo_core.specs.Plane.{IsCoveredIn}
use Rattle.geo_core.specs.declared.plane.Cell.{Cell}
use Rattle.geo_core.specs.declared.plane.Rect.{Rect}
use Rattle.map_model.specs.MapNames.{LayerMap, MappedLayer}
use Rattle.questions.specs.Questions.{metal_layers}
use Rattle.net_extract.specs.Cuts.{cuts_of}
use Rattle.net_extract.specs.Extraction.{IsOnItsMetal, off_metal}
use Rattle.net_extract.specs.declared.fault.NetFault.{NetFault}
use Rattle.layout_probe.specs.NearestNets.{AreNearestNets}
use Rattle.layout_probe.specs.declared.metal_near.MetalNear.{MetalNear}

-- what is told of a metal: its name, and its nets that are nearest to the cell
pub record IsToldOf (layer_map : LayerMap) (covers : ℕ → Cell → Type 0) (c : Cell) (metal : ℕ × MappedLayer) (told : MetalNear) : Type 0 where
  pub layer : told.layer ≡ metal.1.name
  pub nearest : AreNearestNets covers (cuts_of layer_map) metal.0 c told.nearest

-- what is told at a cell: so much of each metal, in the order of the map
abbrev pub IsProbe : LayerMap → (ℕ → Cell → Type 0) → Cell → List MetalNear → Type 0
IsProbe layer_map covers c told = AllZip (IsToldOf layer_map covers c) (metal_layers layer_map) told

-- what layers come to: what is told at the cell where all terminals are on their metals, and else the fault of the first that is not
abbrev pub ComeToProbe : LayerMap → List (List Rect) → Cell → Outcome (Vec MetalNear Global) NetFault → Type 0
ComeToProbe layer_map lists c =
    Checks (IsOnItsMetal lists) (enumerate_from 0 layer_map.terminals) off_metal
    (λ told. IsProbe layer_map (IsCoveredIn lists) c told.items)
