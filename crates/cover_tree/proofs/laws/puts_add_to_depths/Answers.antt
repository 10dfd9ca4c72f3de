use Rattle.cover_tree.proofs.laws.DepthLaws.{in_range, put_depth}
use Rattle.cover_tree.proofs.laws.puts_add_to_depths.Goals as goal

pub returns : goal.returns
unfolding in_range
returns c = λ low high column old new put small. put_depth low high old new put column small
