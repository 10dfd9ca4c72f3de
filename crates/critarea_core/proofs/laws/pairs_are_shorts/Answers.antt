use Rattle.run_inputs.specs.Coverage.{IsCoveredOn}
use Rattle.layout_pairs.proofs.laws.ReportLaws.{no_rows_no_areas, shorts_are_touches}
use Rattle.critarea_core.proofs.laws.pairs_are_shorts.Goals as goal

pub returns-clause-shorts : goal.returns-clause-shorts
returns-clause-shorts c subject size metal pairs cell listed are small =
    shorts_are_touches subject.layer_map (IsCoveredOn subject.layer_map subject.routes) size listed pairs are metal small cell

pub returns-clause-none : goal.returns-clause-none
returns-clause-none c subject size pairs rows listed are answered =
    no_rows_no_areas subject.layer_map (IsCoveredOn subject.layer_map subject.routes) size listed pairs are rows answered
