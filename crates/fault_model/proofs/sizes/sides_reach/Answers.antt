use Rattle.std.proofs.Common.{◌-◌, ◌/◌, arith}
use Rattle.fault_model.proofs.SizeLaws.{touched, swallowed}
use Rattle.fault_model.proofs.sizes.sides_reach.Goals as goal

pub returns-clause-touches : goal.returns-clause-touches
returns-clause-touches c s at d h = touched s (s / 2) h (omega arith) (omega arith) at d

pub returns-clause-covers : goal.returns-clause-covers
returns-clause-covers c s at d h = swallowed s ((s - 1) / 2) (omega arith) (omega arith) at d
