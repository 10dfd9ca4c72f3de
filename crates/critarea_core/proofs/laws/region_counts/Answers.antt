use Rattle.run_inputs.specs.Coverage.{IsCoveredOn}
use Rattle.layout_regions.proofs.laws.RegionLaws.{area_at_place, area_by_name}
use Rattle.critarea_core.proofs.laws.region_counts.Goals as goal

pub returns-clause-at_its_place : goal.returns-clause-at_its_place
returns-clause-at_its_place c subject rows k question row rects answered =
    area_at_place subject.layer_map (IsCoveredOn subject.layer_map subject.routes) rows answered rects k question row

pub returns-clause-by_name : goal.returns-clause-by_name
returns-clause-by_name c subject rows question row rects different answered =
    area_by_name subject.layer_map (IsCoveredOn subject.layer_map subject.routes) rows answered rects different question row
