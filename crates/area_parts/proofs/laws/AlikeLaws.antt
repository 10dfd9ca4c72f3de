-- what is covered alike has the same rows
use Rattle.std.proofs.Common.{ℕ, List, [], ◌∷◌, ◌↔◌}
use Rattle.lists.proofs.Words.{AllZip}
use Rattle.geo_core.specs.declared.plane.Cell.{Cell}
use Rattle.fault_model.specs.FaultNames.{IsCovered, cells_of_window}
use Rattle.fault_model.proofs.WindowLaws.{IsWindowOf-same}
use Rattle.map_model.specs.MapNames.{LayerMap, reach_of}
use Rattle.questions.specs.Questions.{questions}
use Rattle.questions.specs.declared.question.Question.{Question}
use Rattle.questions.specs.declared.row.Row.{Row}
use Rattle.area_parts.specs.Rows.{Answers, AreRows}
use Rattle.area_parts.proofs.FaultLaws.{answers_follow}

module _ (layer_map : LayerMap) (one other : ℕ → Cell → Type 0) (same : (number : ℕ) (c : Cell) → one number c ↔ other number c) where
  all_follow : (cells : List Cell) (qs : List Question) (rows : List Row) → AllZip (Answers layer_map one cells) qs rows → AllZip (Answers layer_map other cells) qs rows
  all_follow cells [] [] h = tt
  all_follow cells [] (row ∷ rows) h = absurd h
  all_follow cells (q ∷ qs) [] h = absurd h
  all_follow cells (q ∷ qs) (row ∷ rows) h = (answers_follow layer_map one other same cells q row h.0, all_follow cells qs rows h.1)

  -- what is covered alike has the same rows
  pub rows_follow : (rows : List Row) → AreRows layer_map one rows → AreRows layer_map other rows
  rows_follow rows are = record {
    window = are.window;
    is_window = IsWindowOf-same (IsCovered one) (IsCovered other) (λ c. (λ v. (v.0, (same v.0 c).0 v.1), λ v. (v.0, (same v.0 c).1 v.1))) (reach_of layer_map) are.window are.is_window;
    answers = all_follow (cells_of_window are.window) (questions layer_map) rows are.answers;
  }
