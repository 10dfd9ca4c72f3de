use Rattle.fault_model.proofs.NetLaws.{keeps_to_metals}
use Rattle.fault_model.proofs.nets.nets_keep_to_metals.Goals as goal

pub returns : goal.returns
returns g c cuts metals p q below = keeps_to_metals metals below p q
