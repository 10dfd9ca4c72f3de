use Rattle.fault_model.proofs.FaultLaws.{short_grows, open_grows, block_grows}
use Rattle.fault_model.proofs.faults.larger_sides_keep_faults.Goals as goal

pub returns-clause-shorts : goal.returns-clause-shorts
returns-clause-shorts g c cuts m s t at larger = short_grows g.L.Layout.covers s t at larger cuts m

pub returns-clause-opens : goal.returns-clause-opens
returns-clause-opens g c m s t at larger = open_grows (g.L.Layout.covers m) _ _ s t at larger

pub returns-clause-opens_of_vias : goal.returns-clause-opens_of_vias
returns-clause-opens_of_vias g c cuts m s t at larger = open_grows (g.L.Layout.covers m) _ _ s t at larger

pub returns-clause-blocks : goal.returns-clause-blocks
returns-clause-blocks g c cut s t at larger = block_grows g.L.Layout.covers s t at larger cut
