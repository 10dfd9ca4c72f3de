-- the rows that answer the questions of a layer map
use Rattle.std.specs.Prelude.{ℕ, ◌≡◌, List, Option, map, Vec}
use Rattle.lists.specs.Words.{AllZip, Global, enumerate_from}
use Rattle.first_refusal.specs.Checks.{Checks}
use Rattle.first_refusal.specs.Outcomes.{Outcome}
use Rattle.geo_core.specs.Plane.{IsCoveredIn}
use Rattle.geo_core.specs.declared.plane.Cell.{Cell}
use Rattle.geo_core.specs.declared.plane.Rect.{Rect}
use Rattle.fault_model.specs.FaultNames.{Tally, IsCovered, IsWindowOf, cells_of_window}
use Rattle.map_model.specs.MapNames.{LayerMap, reach_of}
use Rattle.net_extract.specs.Extraction.{IsOnItsMetal, off_metal}
use Rattle.net_extract.specs.declared.fault.NetFault.{NetFault}
use Rattle.questions.specs.Questions.{IsRowFor, questions, side_of}
use Rattle.questions.specs.declared.question.Question.{Question}
use Rattle.questions.specs.declared.row.Row.{Row}
use Rattle.area_parts.specs.FaultKinds.{IsFault}

-- so many of the cells have the fault that the question names
abbrev pub IsAmount : LayerMap → (ℕ → Cell → Type 0) → List Cell → Question → ℕ → Type 0
IsAmount layer_map covers cells question =
    Tally (IsFault layer_map covers question.kind question.number (side_of question)) cells

-- one amount over the cells for each question of the map, in order
abbrev pub AreAmounts : LayerMap → (ℕ → Cell → Type 0) → List Cell → List ℕ → Type 0
AreAmounts layer_map covers cells = AllZip (IsAmount layer_map covers cells) (questions layer_map)

-- the row has what the question names, and its area is how many of the cells have the fault
pub record Answers (layer_map : LayerMap) (covers : ℕ → Cell → Type 0) (cells : List Cell) (question : Question) (row : Row) : Type 0 where
  pub is_for : IsRowFor question row
  pub area : IsAmount layer_map covers cells question row.area

-- one row for each question, in order, which names what the question does, and these amounts as the areas
pub record AreRowsOf (asked : List Question) (amounts : List ℕ) (rows : List Row) : Type 0 where
  pub named : AllZip IsRowFor asked rows
  pub areas : map (λ row. row.area) rows ≡ amounts

-- the window: what is covered, grown by the reach of the defects; there is none where nothing is covered
abbrev pub IsWindowFor : LayerMap → (ℕ → Cell → Type 0) → Option Rect → Type 0
IsWindowFor layer_map covers = IsWindowOf (IsCovered covers) (reach_of layer_map)

-- the rows answer the questions over the window, one row for each, in order
pub record AreRows (layer_map : LayerMap) (covers : ℕ → Cell → Type 0) (rows : List Row) : Type 0 where
  pub window : Option Rect
  pub is_window : IsWindowFor layer_map covers window
  pub answers : AllZip (Answers layer_map covers (cells_of_window window)) (questions layer_map) rows

-- what layers come to: rows where all terminals are on their metals, and else the fault of the first that is not
abbrev pub ComeToRows : LayerMap → List (List Rect) → Outcome (Vec Row Global) NetFault → Type 0
ComeToRows layer_map lists =
    Checks (IsOnItsMetal lists) (enumerate_from 0 layer_map.terminals) off_metal (λ rows. AreRows layer_map (IsCoveredIn lists) rows.items)
