use Rattle.std.proofs.Common.{suc, ◌+◌, ◌^◌, ◌≡◌, arith, ap}
use Rattle.cover_tree.proofs.Powers.{double, power_le, power_lt, pow_grows}
use Rattle.cover_tree.proofs.columns.height_for.Goals as goal

pub overflow_add-height : goal.overflow_add-height
overflow_add-height c =
    let i = c.loop-leaves.invariant in
    let e = i.power in let t = c.loop-leaves-test.true in let r = c.requires in
    let h = power_lt c.loop-leaves.height 61 (omega arith) in
    omega arith

pub loop-leaves-preserved : goal.loop-leaves-preserved
loop-leaves-preserved c =
    let i = c.loop-leaves.invariant in
    let e = i.power in let t = c.loop-leaves-test.true in let r = c.requires in
    let h = power_lt c.loop-leaves.height 61 (omega arith) in
    let d = double c.loop-leaves.height in
    let up : suc c.loop-leaves.height ≡ c.loop-leaves.height + 1 = omega arith in
    let f : 2 ^ suc c.loop-leaves.height ≡ 2 ^ (c.loop-leaves.height + 1) = ap (λ n. 2 ^ n) up in
    let g = pow_grows c.loop-leaves.height 61 h in
    record {
      power = omega (arith, e, d, f);
      small = omega (arith, e, d, g);
      least = λ other enough. let k = power_lt c.loop-leaves.height other (omega arith) in omega arith;
    }

pub returns-clause-room : goal.returns-clause-room
returns-clause-room c = let i = c.loop-leaves.invariant in let e = i.power in let s = i.small in let h = power_le c.loop-leaves.height 61 (omega arith) in omega arith
