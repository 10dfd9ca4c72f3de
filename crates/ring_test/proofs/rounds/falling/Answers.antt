use Rattle.std.proofs.Common.{arith, ◌≡◌}
use Rattle.lists.proofs.Words.{int_max, int_min, ints, to_z-of_z}
use Rattle.ring_test.proofs.SideLaws.{falling_are, through}
use Rattle.ring_test.proofs.rounds.falling.Goals as goal

pub returns : goal.returns
returns c k =
    let a : c.min.result ≡ int_min c.args.part.high c.args.high = grind (arith, to_z-of_z, c.min.ensures.value) in
    let b : c.max.result ≡ int_max c.args.part.low c.args.low = grind (arith, to_z-of_z, c.max.ensures.value) in
    through (c.run_from.ensures k) (falling_are c.args.first c.args.low c.args.high c.args.part.low c.args.part.high k _ _ (omega (arith, ints)) (omega (arith, ints)))
