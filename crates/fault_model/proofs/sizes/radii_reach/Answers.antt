use Rattle.std.proofs.Common.{◌-◌, ◌+◌, arith}
use Rattle.fault_model.proofs.SizeLaws.{touched, swallowed}
use Rattle.fault_model.proofs.sizes.radii_reach.Goals as goal

pub returns-clause-touches : goal.returns-clause-touches
returns-clause-touches c r at d h = touched (r + r) r (omega arith) (omega arith) (omega arith) at d

pub returns-clause-covers : goal.returns-clause-covers
returns-clause-covers c r at d h = swallowed (r + r) (r - 1) (omega arith) (omega arith) at d
