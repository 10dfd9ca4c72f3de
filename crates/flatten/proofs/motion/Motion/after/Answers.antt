use Rattle.std.proofs.Common.{suc, ◌≤◌, ◌^◌, ◌*◌, ◌≡◌, nat_abs, ◌+ℤ◌, to_z, of_z, w64, arith}
use Rattle.lists.proofs.Words.{ints}
use Rattle.geo_core.proofs.TurnLaws.{at}
use Rattle.flatten.proofs.MotionLaws.{moves_behind}
use Rattle.flatten.proofs.motion.Motion.after.Goals as goal

pub returns-clause-moves : goal.returns-clause-moves
returns-clause-moves c =
    let outer = c.args.self in
    let inner = c.args.inner in
    let turned = c.turned-across in
    let x-same : to_z w64 (of_z w64 inner.dx) ≡ inner.dx = omega (arith, ints, c.requires.inner_reach.across) in
    let y-same : to_z w64 (of_z w64 inner.dy) ≡ inner.dy = omega (arith, ints, c.requires.inner_reach.up) in
    let x-is = rw (x-same, y-same) at turned.ensures.across in
    let y-is = rw (x-same, y-same) at turned.ensures.up in
    let across : to_z w64 (of_z w64 c.both_shifts.result) ≡ turned.result.0 +ℤ outer.dx = omega (arith, ints, c.requires.reach.across, turned.ensures.across_amount) in
    let up : to_z w64 (of_z w64 c.both_shifts-2.result) ≡ turned.result.1 +ℤ outer.dy = omega (arith, ints, c.requires.reach.up, turned.ensures.up_amount) in
    moves_behind outer.turn inner.turn c.after.result (at outer.dx outer.dy) (at inner.dx inner.dy) (at (to_z w64 (of_z w64 c.both_shifts.result)) (to_z w64 (of_z w64 c.both_shifts-2.result)))
    c.after.ensures (rw (← x-is) across) (rw (← y-is) up)

pub returns-clause-reach : goal.returns-clause-reach
returns-clause-reach c steps reach =
    let turned = c.turned-across in
    let across : nat_abs (to_z w64 (of_z w64 c.both_shifts.result)) ≤ suc steps * 2 ^ 49 = omega (arith, ints, c.both_shifts.ensures.amount, turned.ensures.across_amount, c.requires.reach.across, reach.across) in
    let up : nat_abs (to_z w64 (of_z w64 c.both_shifts-2.result)) ≤ suc steps * 2 ^ 49 = omega (arith, ints, c.both_shifts-2.ensures.amount, turned.ensures.up_amount, c.requires.reach.up, reach.up) in
    record { across = across; up = up }
