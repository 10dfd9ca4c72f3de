use Rattle.union_area.proofs.laws.PartLaws.{parts_tally}
use Rattle.union_area.proofs.laws.tallies_of_parts_add.Goals as goal

pub returns : goal.returns
returns g c window first second m n parts = parts_tally window first second parts m n
