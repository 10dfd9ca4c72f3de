-- what is covered alike has the same regions
use Rattle.std.proofs.Common.{ℕ, List, Contains, ◌↔◌}
use Rattle.geo_core.specs.declared.plane.Cell.{Cell}
use Rattle.geo_core.specs.declared.plane.Rect.{Rect}
use Rattle.fault_model.specs.FaultNames.{IsCovered}
use Rattle.fault_model.proofs.AlikeLaws.{block_alike, open_alike, short_alike}
use Rattle.fault_model.proofs.WindowLaws.{IsWindowOf-same}
use Rattle.map_model.specs.MapNames.{LayerMap, reach_of, side_by}
use Rattle.net_extract.specs.Cuts.{cuts_of, terminal_cuts_of}
use Rattle.questions.specs.declared.kind.Kind.{Kind}
use Rattle.questions.specs.declared.kind.Kind.TheVariants.{Short, Open, Via}
use Rattle.area_parts.specs.FaultKinds.{IsFault}
use Rattle.layout_regions.specs.Regions.{IsRegion}

module _ (layer_map : LayerMap) where
  fault_follows : (one other : ℕ → Cell → Type 0) → ((m : ℕ) (c : Cell) → one m c ↔ other m c) → (kind : Kind) (number side : ℕ) (c : Cell)
      → IsFault layer_map one kind number side c → IsFault layer_map other kind number side c
  fault_follows one other same Short number side c f = short_alike one other same (cuts_of layer_map) number side c f
  fault_follows one other same Open number side c f = open_alike one other same (terminal_cuts_of layer_map) (λ d. Contains layer_map.terminals (number, d)) number side c f
  fault_follows one other same Via number side c f = (f.0, f.1, f.2, block_alike one other same f.0 side c f.3)

  pub region_follows : (one other : ℕ → Cell → Type 0) → ((m : ℕ) (c : Cell) → one m c ↔ other m c) → (kind : Kind) (number size : ℕ) (rects : List Rect)
      → IsRegion layer_map one kind number size rects → IsRegion layer_map other kind number size rects
  region_follows one other same kind number size rects are =
      let side = side_by layer_map.measure size in
      let back : (m : ℕ) (c : Cell) → other m c ↔ one m c = λ m c. ((same m c).1, (same m c).0) in
      record {
        window = are.window;
        is_window = IsWindowOf-same (IsCovered one) (IsCovered other) (λ c. (λ v. (v.0, (same v.0 c).0 v.1), λ v. (v.0, (same v.0 c).1 v.1))) (reach_of layer_map) are.window are.is_window;
        cells = λ c. (
          λ u. let h = (are.cells c).0 u in (h.0, fault_follows one other same kind number side c h.1),
          λ h. (are.cells c).1 (h.0, fault_follows other one back kind number side c h.1),
        );
        apart = are.apart;
      }
