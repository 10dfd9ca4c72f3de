use Rattle.gds_write.proofs.laws.WellFormed.{read_is_well_formed}
use Rattle.input_calls.proofs.layouts.read.Goals as goal

pub returns-clause-well_formed : goal.returns-clause-well_formed
returns-clause-well_formed c =
    read_is_well_formed c.args.bytes.now _ c.read_library.ensures.answers
