use Rattle.fault_model.proofs.FaultLaws.{short_near}
use Rattle.fault_model.proofs.faults.shorts_are_near_two_nets.Goals as goal

pub returns : goal.returns
returns g c = short_near g.L.Layout.covers
