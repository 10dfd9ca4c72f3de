use Rattle.layout_nets.proofs.laws.StartLaws.{numbers_tell}
use Rattle.layout_nets.proofs.laws.numbers_tell_nets.Goals as goal

pub returns : goal.returns
returns g c cuts metal starts one other p q are = numbers_tell g.L.Layout.covers cuts metal starts are one other p q
