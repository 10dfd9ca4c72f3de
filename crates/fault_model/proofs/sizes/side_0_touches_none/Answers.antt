use Rattle.std.proofs.Common.{arith}
use Rattle.lists.proofs.Words.{ints}
use Rattle.fault_model.proofs.sizes.side_0_touches_none.Goals as goal

pub returns : goal.returns
returns c at d touch = absurd (omega (arith, ints))
