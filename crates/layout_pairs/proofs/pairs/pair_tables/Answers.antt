use Rattle.std.proofs.Common.{ℕ, ◌≤◌, ◌∙◌, ap, sym, subst, length, List, slice_index_or}
use Rattle.lists.proofs.Words.{enumerate_from, length-map}
use Rattle.first_refusal.proofs.AnswerLaws.{handed_on, out_of_memory}
use Rattle.first_refusal.proofs.JudgeLaws.{given, passed, passes, unread}
use Rattle.geo_core.specs.Plane.{IsCoveredIn}
use Rattle.geo_core.specs.declared.plane.Labelled.{Labelled}
use Rattle.fault_model.specs.FaultNames.{IsCovered, IsWindowOf, cells_of_window}
use Rattle.map_model.specs.MapNames.{layer_map_of, metal_layer, side_by}
use Rattle.map_model.specs.declared.layers.Metal.{Metal}
use Rattle.net_extract.specs.Extraction.{IsOnItsMetal, off_metal}
use Rattle.net_extract.specs.declared.fault.NetFault.TheVariants.{Memory}
use Rattle.area_parts.specs.AreaParts.{AreMetalPieces}
use Rattle.pair_report.specs.PairRows.{pair_rows}
use Rattle.pair_report.specs.declared.tables.MetalPairs.{MetalPairs}
use Rattle.pair_report.specs.declared.tables.PairTables.{PairTables}
use Rattle.layout_pairs.specs.PairAreas.{ArePairRows}
use Rattle.layout_pairs.specs.inside.NumberedPairs.{AreMadeFor}
use Rattle.layout_pairs.proofs.TableLaws.{table_rows}
use Rattle.layout_pairs.proofs.pairs.pair_tables.Goals as goal

pub returns-in_err-pieces : goal.returns-in_err-pieces
returns-in_err-pieces c =
    let lists = c.args.layers.now.lists.items in
    let layer_map = layer_map_of c.args.map.now in
    let fault = c.in_err-pieces.field-0.0 in
    handed_on Memory _ c.from_residual.result fault c.from_residual.ensures.1
    (unread (IsOnItsMetal lists) off_metal (AreMetalPieces layer_map lists) _ (enumerate_from 0 layer_map.terminals) fault c.in_err-pieces.ensures)

pub pairs_of_metals-requires-clause-one_each : goal.pairs_of_metals-requires-clause-one_each
pairs_of_metals-requires-clause-one_each c =
    ap length c.as_slice-2.ensures ∙ (given c.in_ok-pieces.ensures).one_each ∙ length-map c.args.map.now.metals metal_layer ∙ sym (ap length c.as_slice-metals.ensures)

pub returns-in_err-made : goal.returns-in_err-made
returns-in_err-made c = out_of_memory Memory _ c.from_residual-in_err-made.result c.from_residual-in_err-made.ensures.1

pub returns : goal.returns
returns c =
    let map = c.args.map.now in
    let lists = c.args.layers.now.lists.items in
    let layer_map = layer_map_of map in
    let pieces = c.in_ok-pieces.pieces in
    let window = c.window_of-window.result in
    let cells = cells_of_window window in
    let number = c.args.number in
    let size = slice_index_or map.sizes number 0 in
    let side = side_by map.measure size in
    let made = c.in_ok-made.made.items in
    let by_reach = subst (λ ls. IsWindowOf (IsCovered (IsCoveredIn ls)) c.reach.result window) c.as_slice.ensures.value c.window_of-window.ensures in
    let is_window = subst (λ r. IsWindowOf (IsCovered (IsCoveredIn lists)) r window) c.reach.ensures.reach by_reach in
    let some = subst (λ (s : ℕ). 1 ≤ s) c.side-side.ensures.side c.side-side.ensures.within.least in
    let of_metals = subst (λ (ms : List Metal). AreMadeFor ms c.as_slice-2.result.now c.side-side.result cells made) c.as_slice-metals.ensures c.in_ok-made.ensures in
    let of_parts = subst (λ (ps : List (List Labelled)). AreMadeFor map.metals ps c.side-side.result cells made) c.as_slice-2.ensures of_metals in
    let is_made = subst (λ (s : ℕ). AreMadeFor map.metals pieces s cells made) c.side-side.ensures.side of_parts in
    let rows = table_rows map lists pieces window size made (given c.in_ok-pieces.ensures) is_window some c.numbers_keep_cells.ensures is_made in
    let Come = λ (n : ℕ) (ms : List MetalPairs). ArePairRows layer_map (IsCoveredIn lists) size (pair_rows (record { measure = map.measure; size = n; metals = ms })) in
    let of_list = subst (Come size) (sym c.from_vec.ensures) rows in
    let of_size = subst (λ (n : ℕ). Come n c.from_vec.result) (sym (ap (λ (sizes : List ℕ). slice_index_or sizes number 0) c.as_slice-3.ensures)) of_list in
    passes (IsOnItsMetal lists) off_metal (λ (tables : PairTables). ArePairRows layer_map (IsCoveredIn lists) size (pair_rows tables)) (enumerate_from 0 layer_map.terminals) _ (passed c.in_ok-pieces.ensures)
    of_size
