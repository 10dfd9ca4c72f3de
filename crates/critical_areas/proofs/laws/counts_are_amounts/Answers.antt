use Rattle.critical_areas.proofs.CountedLaws.{counted_are_amounts}
use Rattle.critical_areas.proofs.laws.counts_are_amounts.Goals as goal

pub returns : goal.returns
returns c layer_map lists parts cells amounts are counted = counted_are_amounts layer_map lists parts are cells amounts counted
