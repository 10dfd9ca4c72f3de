use Rattle.fault_model.proofs.CellLaws.{once, never, Contains-cells_of}
use Rattle.fault_model.proofs.windows.cells_are_listed_once.Goals as goal

pub returns-clause-same_cells : goal.returns-clause-same_cells
returns-clause-same_cells c = Contains-cells_of

pub returns-clause-once : goal.returns-clause-once
returns-clause-once c = once

pub returns-clause-no_others : goal.returns-clause-no_others
returns-clause-no_others c = never
