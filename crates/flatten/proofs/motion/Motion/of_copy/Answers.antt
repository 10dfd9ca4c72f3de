use Rattle.std.proofs.Common.{◌≡◌, ◌+ℤ◌, to_z, of_z, w64, arith}
use Rattle.lists.proofs.Words.{ints}
use Rattle.geo_core.specs.Plane.{image_under}
use Rattle.flatten.specs.Steps.{Step, lattice_shift, shift_of}
use Rattle.flatten.proofs.MotionLaws.{shifted_alike}
use Rattle.flatten.proofs.motion.Motion.of_copy.Goals as goal

pub returns-clause-moves : goal.returns-clause-moves
returns-clause-moves c p =
    let reference = c.args.reference.now in
    let step : Step = record { reference = reference; column = c.args.column; row = c.args.row } in
    let lattice = lattice_shift reference.lattice c.args.column c.args.row in
    let across : to_z w64 (of_z w64 c.both_shifts.result) ≡ lattice.x +ℤ reference.origin.x = omega (arith, ints) in
    let up : to_z w64 (of_z w64 c.both_shifts-2.result) ≡ lattice.y +ℤ reference.origin.y = omega (arith, ints) in
    shifted_alike _ _ (shift_of step) (image_under reference.turn p) across up
