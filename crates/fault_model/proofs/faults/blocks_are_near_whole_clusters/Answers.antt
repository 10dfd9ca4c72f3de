use Rattle.fault_model.proofs.FaultLaws.{block_near}
use Rattle.fault_model.proofs.faults.blocks_are_near_whole_clusters.Goals as goal

pub returns : goal.returns
returns g c = block_near g.L.Layout.covers
