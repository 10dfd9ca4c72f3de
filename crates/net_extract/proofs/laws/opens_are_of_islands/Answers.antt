use Rattle.net_extract.proofs.laws.OpenLaws.{opens_are_of_islands}
use Rattle.net_extract.proofs.laws.opens_are_of_islands.Goals as goal

pub returns : goal.returns
returns c = λ layer_map lists nets metal islands are anchored s cell. opens_are_of_islands layer_map lists nets are metal s cell islands anchored
