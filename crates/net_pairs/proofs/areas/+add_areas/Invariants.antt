use Rattle.std.proofs.Common.{length}
use Rattle.fault_model.specs.FaultNames.{cells_of}
use Rattle.net_pairs.proofs.areas.+add_areas.Given as goal

abbrev pub decreases-add_areas : goal.decreases-add_areas
decreases-add_areas l = length (cells_of l.window)
