use Rattle.std.proofs.Common.{length}
use Rattle.fault_model.specs.FaultNames.{cells_of}
use Rattle.short_area.proofs.rects.+with_shorts.Given as goal

abbrev pub decreases-with_shorts : goal.decreases-with_shorts
decreases-with_shorts l = length (cells_of l.part)
