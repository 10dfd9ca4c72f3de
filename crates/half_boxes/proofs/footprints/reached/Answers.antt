use Rattle.std.proofs.Common.{arith}
use Rattle.lists.proofs.Words.{ints}
use Rattle.half_boxes.proofs.FootprintLaws.{reached_are}
use Rattle.half_boxes.proofs.footprints.reached.Goals as goal

pub returns : goal.returns
returns c u = reached_are c.args.places.low c.args.places.high c.args.side c.args.places.within.some u _ _ (omega (arith, ints)) (omega (arith, ints)) c.requires.some

pub invariant_of-result : goal.invariant_of-result
invariant_of-result c = let a = c.args.places.within in record { within = record { some = omega (arith, ints); least = omega (arith, ints); most = omega (arith, ints) } }
