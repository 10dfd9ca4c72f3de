use Rattle.std.proofs.Common.{sym, arith}
use Rattle.remnants.proofs.releasing.lies_in_last.Goals as goal

pub returns-then-is_within : goal.returns-then-is_within
returns-then-is_within c = λ yes.
    (c.index-boxes-number.result, (c.loop-number.number, omega arith, sym c.index-boxes-number.is), c.is_within.ensures.0 c.if-is_within.true)
