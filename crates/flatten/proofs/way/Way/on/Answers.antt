use Rattle.std.proofs.Common.{◌-◌}
use Rattle.flatten.specs.Motions.{ShiftsAtMost}
use Rattle.flatten.proofs.WayLaws.{moves_on, bound_on, bound_of}
use Rattle.flatten.proofs.way.Way.on.Goals as goal

pub invariant_of-result : goal.invariant_of-result
invariant_of-result c =
    let way = c.args.self in
    let before : ShiftsAtMost (256 - way.left) way.motion = record { across = bound_of _ way.left way.across; up = bound_of _ way.left way.up } in
    let after = c.after.ensures.reach (256 - way.left) before in
    record { across = bound_on _ _ way.left c.requires.more way.across after.across; up = bound_on _ _ way.left c.requires.more way.up after.up }

pub returns-clause-moves : goal.returns-clause-moves
returns-clause-moves c steps moves =
    moves_on c.args.self.motion c.of_copy.result c.after.result steps (record { reference = c.args.reference.now; column = c.args.column; row = c.args.row })
    moves c.of_copy.ensures.moves c.after.ensures.moves
