use Rattle.severing.proofs.RemovalLaws.{parted_grows}
use Rattle.severing.proofs.laws.larger_removals_sever.Goals as goal

pub returns : goal.returns
returns g c island more = parted_grows more
