use Rattle.critarea_core.proofs.laws.OddAreaLaws.{block_areas, open_areas, short_areas}
use Rattle.critarea_core.proofs.laws.odd_sides_have_even_areas.Goals as goal

pub returns-clause-shorts : goal.returns-clause-shorts
returns-clause-shorts g c layer_map = short_areas layer_map g.L.Layout.covers

pub returns-clause-opens : goal.returns-clause-opens
returns-clause-opens g c layer_map = open_areas layer_map g.L.Layout.covers

pub returns-clause-blocks : goal.returns-clause-blocks
returns-clause-blocks g c layer_map = block_areas layer_map g.L.Layout.covers
