use Rattle.net_extract.proofs.laws.ClusterLaws.{carry_clusters}
use Rattle.via_clusters.proofs.laws.BlockLaws.{block_is_box, tally_of_boxes}
use Rattle.via_clusters.proofs.laws.blocks_are_covered_boxes.Goals as goal

pub returns : goal.returns
returns c = record {
  each = λ layer_map lists nets number cut boxes made at are. block_is_box _ cut nets number (carry_clusters layer_map lists nets number cut made at) boxes are;
  tally = λ layer_map lists nets number cut boxes made at are. tally_of_boxes _ cut nets number (carry_clusters layer_map lists nets number cut made at) boxes are;
}
