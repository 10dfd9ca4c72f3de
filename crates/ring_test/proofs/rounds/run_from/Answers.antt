use Rattle.std.proofs.Common.{arith, refl, ◌+ℤ◌}
use Rattle.lists.proofs.Words.{ints}
use Rattle.geo_core.proofs.IntervalLaws.{IsIn-at}
use Rattle.ring_test.proofs.SideLaws.{none_in}
use Rattle.ring_test.proofs.rounds.run_from.Goals as goal

pub returns-then-from-to : goal.returns-then-from-to
returns-then-from-to c k = (
  λ none. absurd none,
  λ i. none_in (c.args.first +ℤ c.args.from) (c.args.first +ℤ c.args.to) k (let f = c.if-from-to.true in omega (arith, ints)) i,
)

pub returns : goal.returns
returns c k = (
  λ i. IsIn-at _ _ k i (omega (arith, ints)) (omega (arith, ints)) refl,
  λ i. IsIn-at _ _ k i (omega (arith, ints)) (omega (arith, ints)) refl,
)
