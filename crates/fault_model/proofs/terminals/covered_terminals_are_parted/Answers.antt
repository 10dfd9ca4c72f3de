use Rattle.fault_model.proofs.TerminalLaws.{covered_is_parted, covered_is_open}
use Rattle.fault_model.proofs.terminals.covered_terminals_are_parted.Goals as goal

pub returns-clause-parted : goal.returns-clause-parted
returns-clause-parted g c = covered_is_parted g.P.Property.holds

pub returns-clause-opened : goal.returns-clause-opened
returns-clause-opened g c = covered_is_open g.P.Property.holds g.T.Property.holds
