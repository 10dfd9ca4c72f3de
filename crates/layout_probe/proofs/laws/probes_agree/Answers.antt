use Rattle.layout_probe.proofs.laws.UniqueLaws.{probes_agree}
use Rattle.layout_probe.proofs.laws.probes_agree.Goals as goal

pub returns : goal.returns
returns g c layer_map cell = probes_agree layer_map g.L.Layout.covers cell
