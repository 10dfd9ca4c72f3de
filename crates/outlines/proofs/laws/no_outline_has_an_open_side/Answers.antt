use Rattle.outlines.proofs.WindLaws.{right_tells}
use Rattle.outlines.proofs.laws.no_outline_has_an_open_side.Goals as goal

pub returns : goal.returns
returns c = right_tells
