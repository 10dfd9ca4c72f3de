use Rattle.std.proofs.Common.{◌-◌, ◌/◌, arith, refl}
use Rattle.fault_model.proofs.FaultLaws.{block_at, none_at, short_at}
use Rattle.fault_model.proofs.SizeLaws.{swallowed, touched}
use Rattle.run_inputs.specs.Coverage.{IsCoveredOn}
use Rattle.critarea_core.proofs.laws.sides_as_halves.Goals as goal

pub returns-clause-touches : goal.returns-clause-touches
returns-clause-touches c s at d some = touched s (s / 2) some (omega arith) (omega arith) at d

pub returns-clause-covers : goal.returns-clause-covers
returns-clause-covers c s at d some = swallowed s ((s - 1) / 2) (omega arith) (omega arith) at d

pub returns-clause-shorts : goal.returns-clause-shorts
returns-clause-shorts c layer_map routes cuts m s at two = short_at (IsCoveredOn layer_map routes) cuts s two m at

pub returns-clause-no_short : goal.returns-clause-no_short
returns-clause-no_short c layer_map routes cuts m at = none_at (IsCoveredOn layer_map routes) cuts 1 m at refl

pub returns-clause-blocks : goal.returns-clause-blocks
returns-clause-blocks c layer_map routes cut s at some = block_at (IsCoveredOn layer_map routes) s some cut at
