use Rattle.std.proofs.Common.{Global, subst, Vec}
use Rattle.lists.proofs.Words.{enumerate_from}
use Rattle.first_refusal.proofs.AnswerLaws.{handed_on, out_of_memory}
use Rattle.first_refusal.proofs.JudgeLaws.{given, passed, passes, unread}
use Rattle.fault_model.specs.FaultNames.{IsWindowOf}
use Rattle.geo_core.specs.Plane.{IsCoveredIn}
use Rattle.map_model.specs.MapNames.{layer_map_of}
use Rattle.net_extract.specs.Extraction.{IsOnItsMetal, off_metal}
use Rattle.net_extract.specs.declared.fault.NetFault.TheVariants.{Memory}
use Rattle.questions.specs.declared.row.Row.{Row}
use Rattle.area_parts.specs.AreaParts.{ArePartsOf}
use Rattle.area_parts.specs.Rows.{AreRows}
use Rattle.critical_areas.specs.inside.CountedRows.{AreCountedRows}
use Rattle.critical_areas.proofs.RowLaws.{rows_are}
use Rattle.area_parts.proofs.laws.WindowLaws.{Covered}
use Rattle.critical_areas.proofs.critical_areas.Goals as goal

pub returns-in_err-parts-clause-rows : goal.returns-in_err-parts-clause-rows
returns-in_err-parts-clause-rows g c =
    let lists = c.args.layers.now.lists.items in
    let layer_map = layer_map_of c.args.map.now in
    let fault = c.in_err-parts.field-0.0 in
    handed_on Memory _ c.from_residual.result fault c.from_residual.ensures.1
    (unread (IsOnItsMetal lists) off_metal (ArePartsOf layer_map lists) _ (enumerate_from 0 layer_map.terminals) fault c.in_err-parts.ensures)

pub returns-in_err-counted_rows-clause-rows : goal.returns-in_err-counted_rows-clause-rows
returns-in_err-counted_rows-clause-rows g c = out_of_memory Memory _ c.from_residual-in_err-counted_rows.result c.from_residual-in_err-counted_rows.ensures.1

pub returns-clause-rows : goal.returns-clause-rows
returns-clause-rows g c =
    let layer_map = layer_map_of c.args.map.now in
    let lists = c.args.layers.now.lists.items in
    let parts = c.in_ok-parts.parts in
    let window = c.window_of-window.result in
    let asked = c.asked.result in
    let rows = c.in_ok-counted_rows.field-0 in
    let by_reach = subst (λ ls. IsWindowOf (Covered ls) c.reach.result window) c.as_slice.ensures.value c.window_of-window.ensures in
    let is_window = subst (λ r. IsWindowOf (Covered lists) r window) c.reach.ensures.reach by_reach in
    let of_parts = subst (λ ps. AreCountedRows ps window asked.questions.now rows.items) c.asked.ensures.parts c.in_ok-counted_rows.ensures.counted in
    let are = subst (λ qs. AreCountedRows parts window qs rows.items) c.asked.ensures.questions of_parts in
    passes (IsOnItsMetal lists) off_metal (λ (found : Vec Row Global). AreRows layer_map (IsCoveredIn lists) found.items) (enumerate_from 0 layer_map.terminals) rows (passed c.in_ok-parts.ensures)
    (rows_are layer_map lists parts window are.amounts rows.items (given c.in_ok-parts.ensures) is_window are.counted are.rows_of)
