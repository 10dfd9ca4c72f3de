use Rattle.std.proofs.Common.{length}
use Rattle.fault_model.specs.FaultNames.{cells_of}
use Rattle.open_grid.proofs.zones.+open_parts.Given as goal

abbrev pub decreases-open_parts : goal.decreases-open_parts
decreases-open_parts l = length (cells_of l.zone)
