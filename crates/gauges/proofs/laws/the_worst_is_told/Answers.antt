use Rattle.std.proofs.Common.{refl}
use Rattle.gauges.proofs.WorstLaws.{first_worst_told, one_first_worst, some_first_worst}
use Rattle.gauges.proofs.laws.the_worst_is_told.Goals as goal

pub returns : goal.returns
returns c = record { none = refl; some = some_first_worst; line = first_worst_told; one = one_first_worst }
