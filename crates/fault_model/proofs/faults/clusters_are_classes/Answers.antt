use Rattle.fault_model.proofs.ClusterLaws.{clusters_are_classes, clusters_have_two_islands, blocks_have_clusters}
use Rattle.fault_model.proofs.faults.clusters_are_classes.Goals as goal

pub returns-clause-classes : goal.returns-clause-classes
returns-clause-classes g c = clusters_are_classes g.L.Layout.covers

pub returns-clause-islands : goal.returns-clause-islands
returns-clause-islands g c = clusters_have_two_islands g.L.Layout.covers

pub returns-clause-blocks : goal.returns-clause-blocks
returns-clause-blocks g c = blocks_have_clusters g.L.Layout.covers
