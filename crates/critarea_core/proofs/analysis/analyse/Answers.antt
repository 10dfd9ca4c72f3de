use Rattle.std.proofs.Common.{◌∙◌, ap, length, option_copied}
use Rattle.geo_core.specs.Plane.{IsCoveredIn}
use Rattle.map_model.specs.MapNames.{LayerMap, layers_of, layer_map_of}
use Rattle.area_parts.specs.Rows.{AreRows}
use Rattle.run_inputs.proofs.laws.LayerCounts.{layer_count}
use Rattle.run_inputs.proofs.laws.ReadingLaws.{found_for}
use Rattle.critarea_core.proofs.AnalysisLaws.{HasRows, analysed, no_layers, no_library, off_metals, on_metals}
use Rattle.critarea_core.proofs.TerminalLaws.{as_rows}
use Rattle.critarea_core.proofs.analysis.analyse.Goals as goal

pub returns-in_err-library-clause-rows : goal.returns-in_err-library-clause-rows
returns-in_err-library-clause-rows g c =
    let layer_map = layer_map_of c.args.map.now in
    let wanted = option_copied c.args.top in
    analysed layer_map wanted c.args.layout.now c.from_residual.result
    (no_library HasRows layer_map wanted c.args.layout.now c.in_err-library.field-0.0 c.from_residual.result c.from_residual.ensures.1 c.in_err-library.ensures.answers)

pub returns-in_err-layers-clause-rows : goal.returns-in_err-layers-clause-rows
returns-in_err-layers-clause-rows g c =
    let layer_map = layer_map_of c.args.map.now in
    let wanted = option_copied c.args.top in
    let result = c.from_residual-in_err-layers.result in
    analysed layer_map wanted c.args.layout.now result
    (no_layers HasRows layer_map wanted c.args.layout.now c.in_ok-library.library c.in_ok-library.ensures.answers c.in_err-layers.field-0.0 result c.from_residual-in_err-layers.ensures.1
    c.in_err-layers.ensures)

pub critical_areas-requires-clause-one_each : goal.critical_areas-requires-clause-one_each
critical_areas-requires-clause-one_each g c κs within =
    let given = c.args.map.now in
    let laid = (found_for _ _ _ _ c.in_ok-layers.layers c.in_ok-layers.ensures).2 in
    laid.layers.one_each ∙ ap (λ (m : LayerMap). length (layers_of m)) laid.of_map ∙ layer_count given.metals given.cuts

pub critical_areas-requires-clause-within : goal.critical_areas-requires-clause-within
critical_areas-requires-clause-within g c κs within = (found_for _ _ _ _ c.in_ok-layers.layers c.in_ok-layers.ensures).2.layers.within

pub returns-in_err-rows-clause-rows : goal.returns-in_err-rows-clause-rows
returns-in_err-rows-clause-rows g c =
    let layer_map = layer_map_of c.args.map.now in
    let wanted = option_copied c.args.top in
    let result = c.from_residual-in_err-rows.result in
    let lists = c.in_ok-layers.layers.lists.items in
    analysed layer_map wanted c.args.layout.now result
    (off_metals HasRows layer_map wanted c.args.layout.now c.in_ok-library.library c.in_ok-library.ensures.answers c.in_ok-layers.layers c.in_ok-layers.ensures
    (λ m rows. AreRows m (IsCoveredIn lists) rows.items) c.in_err-rows.field-0.0 result c.from_residual-in_err-rows.ensures.1 c.in_err-rows.ensures.rows)

pub returns-clause-rows : goal.returns-clause-rows
returns-clause-rows g c =
    let layer_map = layer_map_of c.args.map.now in
    let wanted = option_copied c.args.top in
    let lists = c.in_ok-layers.layers.lists.items in
    let rows = c.in_ok-rows.rows in
    analysed layer_map wanted c.args.layout.now _
    (on_metals HasRows layer_map wanted c.args.layout.now c.in_ok-library.library c.in_ok-library.ensures.answers c.in_ok-layers.layers c.in_ok-layers.ensures
    (λ m found. AreRows m (IsCoveredIn lists) found.items) rows (λ subject laid are. as_rows layer_map c.in_ok-layers.layers subject laid rows.items are) c.in_ok-rows.ensures.rows)
