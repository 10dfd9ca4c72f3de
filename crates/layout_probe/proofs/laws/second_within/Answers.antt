use Rattle.layout_probe.proofs.laws.ShortLaws.{second_tells}
use Rattle.layout_probe.proofs.laws.second_within.Goals as goal

pub returns : goal.returns
returns g c cuts metal r cell nearest are = second_tells g.L.Layout.covers cuts metal r cell nearest are
