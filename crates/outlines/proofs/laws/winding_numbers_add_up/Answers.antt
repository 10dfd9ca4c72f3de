use Rattle.outlines.proofs.laws.JoinLaws.{winding_joined}
use Rattle.outlines.proofs.laws.winding_numbers_add_up.Goals as goal

pub returns : goal.returns
returns c = winding_joined
