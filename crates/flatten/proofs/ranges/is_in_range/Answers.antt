use Rattle.std.proofs.Common.{◌≡◌, ◌+ℤ◌, to_z, of_z, w64, refl, arith}
use Rattle.lists.proofs.Words.{ints}
use Rattle.flatten.specs.Motions.{image_by}
use Rattle.flatten.proofs.RangeLaws.{beyond_across, in_range_both}
use Rattle.flatten.proofs.ranges.is_in_range.Goals as goal

pub returns-then-is_near : goal.returns-then-is_near
returns-then-is_near c =
    let motion = c.args.motion in
    let point = c.args.point in
    let turned = c.turned-x in
    let x-same : to_z w64 (of_z w64 c.from.result) ≡ point.x = omega (arith, ints) in
    let y-same : to_z w64 (of_z w64 c.from-2.result) ≡ point.y = omega (arith, ints) in
    let x-is = rw (x-same, y-same) at turned.ensures.across in
    let y-is = rw (x-same, y-same) at turned.ensures.up in
    let across : to_z w64 (of_z w64 turned.result.0) +ℤ to_z w64 (of_z w64 motion.dx) ≡ turned.result.0 +ℤ motion.dx = omega (arith, ints, c.requires.across, turned.ensures.across_amount) in
    let up : to_z w64 (of_z w64 turned.result.1) +ℤ to_z w64 (of_z w64 motion.dy) ≡ turned.result.1 +ℤ motion.dy = omega (arith, ints, c.requires.up, turned.ensures.up_amount) in
    in_range_both (image_by motion point) c.is_near-then-is_near.result (rw (across, x-is) at (c.if-is_near.ensures.0 refl)) (rw (up, y-is) at c.is_near-then-is_near.ensures)

pub returns-else-is_near : goal.returns-else-is_near
returns-else-is_near c =
    let motion = c.args.motion in
    let point = c.args.point in
    let turned = c.turned-x in
    let x-same : to_z w64 (of_z w64 c.from.result) ≡ point.x = omega (arith, ints) in
    let y-same : to_z w64 (of_z w64 c.from-2.result) ≡ point.y = omega (arith, ints) in
    let x-is = rw (x-same, y-same) at turned.ensures.across in
    let across : to_z w64 (of_z w64 turned.result.0) +ℤ to_z w64 (of_z w64 motion.dx) ≡ turned.result.0 +ℤ motion.dx = omega (arith, ints, c.requires.across, turned.ensures.across_amount) in
    beyond_across (image_by motion point) c.is_near.result c.if-is_near.false (rw (across, x-is) at c.is_near.ensures)
