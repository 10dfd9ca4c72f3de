-- what the bytes of a layout come to where rows are wanted
use Rattle.std.specs.Prelude.{ℕ, List, Option, Vec}
use Rattle.lists.specs.Words.{Global}
use Rattle.first_refusal.specs.Outcomes.{Outcome, value, refused}
use Rattle.map_model.specs.MapNames.{LayerMap}
use Rattle.questions.specs.declared.row.Row.{Row}
use Rattle.run_inputs.specs.Layout.{Subject, ShortLayoutComesTo}
use Rattle.run_inputs.specs.declared.layout_fault.LayoutFault.{LayoutFault}
use Rattle.critarea_core.specs.Outputs.{AreRowsOn}

-- the rows on the subject to which the bytes come, or their first fault
pub data AnalysisComesTo (layer_map : LayerMap) (wanted : Option (List ℕ)) (bytes : List ℕ)
    : Outcome (Vec Row Global) LayoutFault → Type 0 where
  has_rows : {subject : Subject} {rows : Vec Row Global} → ShortLayoutComesTo layer_map wanted bytes (value subject)
      → AreRowsOn subject rows.items → AnalysisComesTo layer_map wanted bytes (value rows)
  has_fault : {fault : LayoutFault} → ShortLayoutComesTo layer_map wanted bytes (refused fault)
      → AnalysisComesTo layer_map wanted bytes (refused fault)
