-- rows by what is counted over a window
use Rattle.std.specs.Prelude.{ℕ, List, Option}
use Rattle.geo_core.specs.declared.plane.Rect.{Rect}
use Rattle.fault_model.specs.FaultNames.{cells_of_window}
use Rattle.questions.specs.declared.question.Question.{Question}
use Rattle.questions.specs.declared.row.Row.{Row}
use Rattle.area_parts.specs.AskedCounts.{AreCounted}
use Rattle.area_parts.specs.Rows.{AreRowsOf}
use Rattle.area_parts.specs.declared.parts.Parts.{Parts}

-- the rows name what the questions do, and their areas are what is counted over the window, where there is one
pub record AreCountedRows (parts : Parts) (window : Option Rect) (questions : List Question) (rows : List Row) : Type 0 where
  pub amounts : List ℕ
  pub counted : AreCounted parts (cells_of_window window) questions amounts
  pub rows_of : AreRowsOf questions amounts rows
