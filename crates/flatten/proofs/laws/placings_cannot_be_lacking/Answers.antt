use Rattle.flatten.proofs.laws.Placings.{placings_cannot_lack}
use Rattle.flatten.proofs.laws.placings_cannot_be_lacking.Goals as goal

pub returns : goal.returns
returns c = placings_cannot_lack
