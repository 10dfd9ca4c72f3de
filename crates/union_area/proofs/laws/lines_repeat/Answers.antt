use Rattle.union_area.proofs.laws.LineLaws.{lines_tally}
use Rattle.union_area.proofs.laws.lines_repeat.Goals as goal

pub returns : goal.returns
returns g c = lines_tally g.P.Property.holds
