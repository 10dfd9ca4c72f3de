use Rattle.std.proofs.Common.{◌≡◌, ◌^◌, to_z, of_z, w64, arith}
use Rattle.lists.proofs.Words.{ints}
use Rattle.geo_core.proofs.TurnLaws.{at}
use Rattle.flatten.proofs.MotionLaws.{IsWithin-image_under}
use Rattle.flatten.proofs.motion.turned.Goals as goal

pub returns-clause-across_amount : goal.returns-clause-across_amount
returns-clause-across_amount c =
    let x-same : to_z w64 (of_z w64 c.args.x) ≡ c.args.x = omega (arith, ints) in
    let y-same : to_z w64 (of_z w64 c.args.y) ≡ c.args.y = omega (arith, ints) in
    let is = rw (x-same, y-same) at c.turn_point.ensures.0 in
    rw is (IsWithin-image_under (2 ^ 49) c.args.turn (at c.args.x c.args.y) (record { across = c.requires.across; up = c.requires.up })).across

pub returns-clause-up_amount : goal.returns-clause-up_amount
returns-clause-up_amount c =
    let x-same : to_z w64 (of_z w64 c.args.x) ≡ c.args.x = omega (arith, ints) in
    let y-same : to_z w64 (of_z w64 c.args.y) ≡ c.args.y = omega (arith, ints) in
    let is = rw (x-same, y-same) at c.turn_point.ensures.1 in
    rw is (IsWithin-image_under (2 ^ 49) c.args.turn (at c.args.x c.args.y) (record { across = c.requires.across; up = c.requires.up })).up
