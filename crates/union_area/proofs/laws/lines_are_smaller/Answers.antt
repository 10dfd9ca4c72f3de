use Rattle.union_area.proofs.laws.LineLaws.{fewer_in_line}
use Rattle.union_area.proofs.laws.lines_are_smaller.Goals as goal

pub returns : goal.returns
returns c = fewer_in_line
