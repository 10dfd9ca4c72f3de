use Rattle.run_laws.proofs.TallyLaws.{tally_cannot_lack}
use Rattle.run_laws.proofs.tallies_cannot_be_lacking.Goals as goal

pub returns : goal.returns
returns g c cells = tally_cannot_lack g.P.Property.holds cells
