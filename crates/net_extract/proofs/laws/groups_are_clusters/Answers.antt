use Rattle.net_extract.proofs.laws.ClusterLaws.{carry_clusters}
use Rattle.net_extract.proofs.laws.groups_are_clusters.Goals as goal

pub returns : goal.returns
returns c = carry_clusters
