use Rattle.cover_tree.proofs.laws.DepthLaws.{in_range, take_depth}
use Rattle.cover_tree.proofs.laws.takes_subtract_from_depths.Goals as goal

pub returns : goal.returns
unfolding in_range
returns c = λ low high column old new taken small. take_depth low high old new taken column small
