use Rattle.std.proofs.Common.{refl}
use Rattle.fault_model.proofs.FaultLaws.{short_at, none_at, block_at}
use Rattle.fault_model.proofs.faults.sides_as_halves.Goals as goal

pub returns-clause-shorts : goal.returns-clause-shorts
returns-clause-shorts g c cuts m s at h = short_at g.L.Layout.covers cuts s h m at

pub returns-clause-no_short : goal.returns-clause-no_short
returns-clause-no_short g c cuts m at = none_at g.L.Layout.covers cuts 1 m at refl

pub returns-clause-blocks : goal.returns-clause-blocks
returns-clause-blocks g c cut s at h = block_at g.L.Layout.covers s h cut at
