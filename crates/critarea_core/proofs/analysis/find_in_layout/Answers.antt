use Rattle.std.proofs.Common.{◌∙◌, ap, length, option_copied}
use Rattle.geo_core.specs.Plane.{IsCoveredIn}
use Rattle.map_model.specs.MapNames.{LayerMap, layers_of, layer_map_of}
use Rattle.region_out.specs.RegionLibraries.{units_of}
use Rattle.run_inputs.proofs.laws.LayerCounts.{layer_count}
use Rattle.run_inputs.proofs.laws.ReadingLaws.{found_for}
use Rattle.critarea_core.specs.inside.Finding.{HasFound, IsFoundIn}
use Rattle.critarea_core.proofs.AnalysisLaws.{no_layers, no_library, off_metals, on_metals}
use Rattle.critarea_core.proofs.TerminalLaws.{as_found}
use Rattle.critarea_core.proofs.analysis.find_in_layout.Goals as goal

pub returns-in_err-library : goal.returns-in_err-library
returns-in_err-library g c =
    no_library (HasFound c.args.query) (layer_map_of c.args.map.now) (option_copied c.args.top) c.args.bytes.items c.in_err-library.field-0.0 c.from_residual.result c.from_residual.ensures.1
    (rw c.as_slice.ensures.value at c.in_err-library.ensures.answers)

pub returns-in_err-layers : goal.returns-in_err-layers
returns-in_err-layers g c =
    no_layers (HasFound c.args.query) (layer_map_of c.args.map.now) (option_copied c.args.top) c.args.bytes.items c.in_ok-library.library
    (rw c.as_slice.ensures.value at c.in_ok-library.ensures.answers) c.in_err-layers.field-0.0 c.from_residual-in_err-layers.result c.from_residual-in_err-layers.ensures.1 c.in_err-layers.ensures

pub find_on_layers-requires-clause-one_each : goal.find_on_layers-requires-clause-one_each
find_on_layers-requires-clause-one_each g c κs within =
    let given = c.args.map.now in
    let laid = (found_for _ _ _ _ c.in_ok-layers.layers c.in_ok-layers.ensures).2 in
    laid.layers.one_each ∙ ap (λ (m : LayerMap). length (layers_of m)) laid.of_map ∙ layer_count given.metals given.cuts

pub find_on_layers-requires-clause-within : goal.find_on_layers-requires-clause-within
find_on_layers-requires-clause-within g c κs within = (found_for _ _ _ _ c.in_ok-layers.layers c.in_ok-layers.ensures).2.layers.within

pub find_on_layers-requires-clause-fit : goal.find_on_layers-requires-clause-fit
find_on_layers-requires-clause-fit g c κs within = units_of c.in_ok-library.library

pub returns-in_err-found : goal.returns-in_err-found
returns-in_err-found g c =
    let library = c.in_ok-library.library in
    let layers = c.in_ok-layers.layers in
    off_metals (HasFound c.args.query) (layer_map_of c.args.map.now) (option_copied c.args.top) c.args.bytes.items library
    (rw c.as_slice.ensures.value at c.in_ok-library.ensures.answers) layers c.in_ok-layers.ensures
    (λ m found. IsFoundIn c.args.query m (IsCoveredIn layers.lists.items) library.units found) c.in_err-found.field-0.0 c.from_residual-in_err-found.result
    c.from_residual-in_err-found.ensures.1 c.in_err-found.ensures

pub returns : goal.returns
returns g c =
    let layer_map = layer_map_of c.args.map.now in
    let library = c.in_ok-library.library in
    let layers = c.in_ok-layers.layers in
    let query = c.args.query in
    let found = c.in_ok-found.found in
    on_metals (HasFound query) layer_map (option_copied c.args.top) c.args.bytes.items library
    (rw c.as_slice.ensures.value at c.in_ok-library.ensures.answers) layers c.in_ok-layers.ensures
    (λ m one. IsFoundIn query m (IsCoveredIn layers.lists.items) library.units one) found
    (λ subject laid is. as_found layer_map layers subject laid query found is) c.in_ok-found.ensures
