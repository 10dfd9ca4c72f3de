-- rows by amounts
use Rattle.std.proofs.Common.{ℕ, sym, subst, List, [], ◌∷◌, map, Option}
use Rattle.lists.proofs.Words.{AllZip}
use Rattle.geo_core.specs.Plane.{IsCoveredIn}
use Rattle.geo_core.specs.declared.plane.Cell.{Cell}
use Rattle.geo_core.specs.declared.plane.Rect.{Rect}
use Rattle.fault_model.specs.FaultNames.{cells_of_window}
use Rattle.map_model.specs.MapNames.{LayerMap}
use Rattle.questions.specs.Questions.{IsRowFor, questions}
use Rattle.questions.specs.declared.question.Question.{Question}
use Rattle.area_parts.specs.AreaParts.{ArePartsOf}
use Rattle.area_parts.specs.AskedCounts.{AreCounted}
use Rattle.area_parts.specs.Rows.{Answers, AreRows, AreRowsOf, IsAmount, IsWindowFor}
use Rattle.area_parts.specs.declared.parts.Parts.{Parts}
use Rattle.questions.specs.declared.row.Row.{Row}
use Rattle.critical_areas.proofs.CountedLaws.{counted_are_amounts}

-- rows that name what the questions do, with the amounts as their areas, answer the questions
rows_answer : (layer_map : LayerMap) (covers : ℕ → Cell → Type 0) (cells : List Cell) (qs : List Question) (amounts : List ℕ) (rows : List Row)
    → AreRowsOf qs amounts rows → AllZip (IsAmount layer_map covers cells) qs amounts → AllZip (Answers layer_map covers cells) qs rows
rows_answer layer_map covers cells qs amounts rows are counted = each qs rows are.named (subst (AllZip (IsAmount layer_map covers cells) qs) (sym are.areas) counted) where
  each : (qs : List Question) (rows : List Row) → AllZip IsRowFor qs rows → AllZip (IsAmount layer_map covers cells) qs (map (λ (row : Row). row.area) rows)
      → AllZip (Answers layer_map covers cells) qs rows
  each [] [] h g = tt
  each [] (row ∷ rows) h g = absurd h
  each (q ∷ qs) [] h g = absurd h
  each (q ∷ qs) (row ∷ rows) h g = (record { is_for = h.0; area = g.0 }, each qs rows h.1 g.1)

-- rows by what was counted for the questions of parts are those of the layer map
pub rows_are : (layer_map : LayerMap) (lists : List (List Rect)) (parts : Parts) (window : Option Rect) (amounts : List ℕ) (rows : List Row) → ArePartsOf layer_map lists parts
    → IsWindowFor layer_map (IsCoveredIn lists) window → AreCounted parts (cells_of_window window) parts.questions amounts → AreRowsOf parts.questions amounts rows
    → AreRows layer_map (IsCoveredIn lists) rows
rows_are layer_map lists parts window amounts rows are is_window counted named =
    let cells = cells_of_window window in
    let of_map = subst (λ qs. AreRowsOf qs amounts rows) are.asked named in
    record {
      window = window;
      is_window = is_window;
      answers = rows_answer layer_map (IsCoveredIn lists) cells (questions layer_map) amounts rows of_map (counted_are_amounts layer_map lists parts are cells amounts counted);
    }
