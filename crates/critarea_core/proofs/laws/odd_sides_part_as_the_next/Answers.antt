use Rattle.critarea_core.proofs.laws.OddSideLaws.{parted_alike}
use Rattle.critarea_core.proofs.laws.odd_sides_part_as_the_next.Goals as goal

pub returns : goal.returns
returns g c k at one other = parted_alike g.P.Property.holds at k g.R.HalfSet.has g.S.HalfSet.has one other
