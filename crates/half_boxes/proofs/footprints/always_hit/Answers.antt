use Rattle.std.proofs.Common.{arith}
use Rattle.lists.proofs.Words.{ints}
use Rattle.half_boxes.proofs.FootprintLaws.{hit_are, never_hit}
use Rattle.half_boxes.proofs.footprints.always_hit.Goals as goal

pub returns-clause-some : goal.returns-clause-some
returns-clause-some c u = hit_are c.args.places.low c.args.places.high c.args.side c.args.places.within.some u _ _ (omega (arith, ints)) (omega (arith, ints))

pub returns-then-low-high-clause-none : goal.returns-then-low-high-clause-none
returns-then-low-high-clause-none c u all = never_hit c.args.places.low c.args.places.high c.args.side c.args.places.within.some u (let f = c.if-low-high.true in omega (arith, ints)) all

pub invariant_of-result : goal.invariant_of-result
invariant_of-result c = let a = c.args.places.within in record { within = record { some = omega (arith, ints); least = omega (arith, ints); most = omega (arith, ints) } }
