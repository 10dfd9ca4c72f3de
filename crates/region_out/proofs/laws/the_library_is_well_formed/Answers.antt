use Rattle.region_out.proofs.FormLaws.{is_well_formed}
use Rattle.region_out.proofs.laws.the_library_is_well_formed.Goals as goal

pub returns : goal.returns
returns c = is_well_formed
