use Rattle.fault_model.proofs.TerminalLaws.{tied_as_whole}
use Rattle.fault_model.proofs.terminals.cells_are_tied_as_wholes.Goals as goal

pub returns : goal.returns
returns g c = tied_as_whole g.P.Property.holds
