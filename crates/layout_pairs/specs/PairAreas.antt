-- pairs of nets of a metal, and at how many cells a defect touches both
use Rattle.std.specs.Prelude.{ℕ, List, AllPairs, Contains, Option, flat_map, length, ◌≡◌, ◌≢◌, ◌<◌, ◌↔◌}
use Rattle.std.specs.List.{zip}
use Rattle.lists.specs.Words.{AllZip, enumerate_from}
use Rattle.first_refusal.specs.Checks.{Checks}
use Rattle.first_refusal.specs.Outcomes.{Outcome}
use Rattle.geo_core.specs.Plane.{IsCoveredIn}
use Rattle.geo_core.specs.declared.plane.Cell.{Cell}
use Rattle.geo_core.specs.declared.plane.Half.{Half}
use Rattle.geo_core.specs.declared.plane.Rect.{Rect}
use Rattle.fault_model.specs.FaultNames.{Cut, IsInFootprint, Tally, cells_of_window}
use Rattle.map_model.specs.MapNames.{LayerMap, side_by}
use Rattle.questions.specs.Questions.{metal_layers}
use Rattle.net_extract.specs.Cuts.{cuts_of}
use Rattle.net_extract.specs.Extraction.{IsOnItsMetal, off_metal}
use Rattle.net_extract.specs.declared.fault.NetFault.{NetFault}
use Rattle.area_parts.specs.Rows.{IsWindowFor}
use Rattle.net_pairs.specs.Pairs.{IsBefore}
use Rattle.gauges.specs.declared.pair_row.PairRow.{PairRow}
use Rattle.pair_report.specs.PairRows.{pair_rows, rows_of_metal}
use Rattle.pair_report.specs.declared.tables.PairTables.{PairTables}
use Rattle.layout_nets.specs.NetNumbers.{AreNetStarts, IsOfNet}

-- the defect of this side at the cell has a half square of each of the two nets with these numbers
pub record TouchesNets (covers : ℕ → Cell → Type 0) (cuts : List Cut) (metal side : ℕ) (starts : List Cell) (one other : ℕ) (c : Cell) : Type 0 where
  pub half_of_one : Half
  pub half_of_other : Half
  pub of_one : IsOfNet covers cuts metal starts one half_of_one
  pub of_other : IsOfNet covers cuts metal starts other half_of_other
  pub one_hit : IsInFootprint c side half_of_one
  pub other_hit : IsInFootprint c side half_of_other

-- two nets with different numbers have half squares in the defect
pub record TouchesSomeNets (covers : ℕ → Cell → Type 0) (cuts : List Cut) (metal side : ℕ) (c : Cell) : Type 0 where
  pub starts : List Cell
  pub are_starts : AreNetStarts covers cuts metal starts
  pub one : ℕ
  pub other : ℕ
  pub different : one ≢ other
  pub touches : TouchesNets covers cuts metal side starts one other c

-- Each two numbers of nets, the lesser one first, have an area over the cells: at how many a defect touches both. The list has the
-- numbers and the area of each two whose area is not 0, and nothing else, by the first number and then by the second.
pub record ArePairsOn (covers : ℕ → Cell → Type 0) (cuts : List Cut) (metal side : ℕ) (cells : List Cell) (pairs : List (ℕ × ℕ × ℕ)) : Type 0 where
  pub starts : List Cell
  pub are_starts : AreNetStarts covers cuts metal starts
  pub area : ℕ → ℕ → ℕ
  pub tallies : (one other : ℕ) → one < other → other < length starts →
      Tally (TouchesNets covers cuts metal side starts one other) cells (area one other)
  pub exact : (one other cells_of_both : ℕ) → Contains pairs (one, other, cells_of_both) ↔
      ((one < other) × (other < length starts) × (0 < cells_of_both) × (area one other ≡ cells_of_both))
  pub rising : AllPairs IsBefore pairs

-- the rows of pairs for defects of this size: those of each metal of the map in order, over the window
pub record ArePairRows (layer_map : LayerMap) (covers : ℕ → Cell → Type 0) (size : ℕ) (rows : List PairRow) : Type 0 where
  pub window : Option Rect
  pub is_window : IsWindowFor layer_map covers window
  pub pairs : List (List (ℕ × ℕ × ℕ))
  pub each : AllZip (λ metal. ArePairsOn covers (cuts_of layer_map) metal.0 (side_by layer_map.measure size) (cells_of_window window))
      (metal_layers layer_map) pairs
  pub rows_are : rows ≡ flat_map (λ both. rows_of_metal layer_map.measure size both.0.1.name both.1) (zip (metal_layers layer_map) pairs)

-- what layers come to: rows of pairs where all terminals are on their metals, and else the fault of the first that is not
abbrev pub ComeToPairs : LayerMap → List (List Rect) → ℕ → Outcome PairTables NetFault → Type 0
ComeToPairs layer_map lists size =
    Checks (IsOnItsMetal lists) (enumerate_from 0 layer_map.terminals) off_metal
    (λ tables. ArePairRows layer_map (IsCoveredIn lists) size (pair_rows tables))
