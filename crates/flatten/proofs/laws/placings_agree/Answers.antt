use Rattle.flatten.proofs.laws.Placings as laws
use Rattle.flatten.proofs.laws.placings_agree.Goals as goal

pub returns : goal.returns
returns c = laws.placings_agree
