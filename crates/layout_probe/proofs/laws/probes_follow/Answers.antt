use Rattle.layout_probe.proofs.laws.AlikeLaws.{probes_follow}
use Rattle.layout_probe.proofs.laws.probes_follow.Goals as goal

pub returns : goal.returns
returns g c same layer_map cell told = probes_follow g.L.Layout.covers g.O.Layout.covers same layer_map cell told
