use Rattle.net_extract.proofs.laws.ClusterLaws.{carry_clusters}
use Rattle.via_clusters.proofs.laws.BlockLaws.{boxes_in_layout}
use Rattle.via_clusters.proofs.laws.boxes_stay_in_layouts.Goals as goal

pub returns : goal.returns
returns c layer_map lists nets number cut boxes made at are within = boxes_in_layout lists within cut nets number (carry_clusters layer_map lists nets number cut made at) boxes are
