use Rattle.std.proofs.Common.{arith}
use Rattle.lists.proofs.Words.{ints}
use Rattle.std.proofs.lemmas.Int.{to_z-of_z}
use Rattle.open_grid.proofs.ChangeLaws.{gains_inside}
use Rattle.open_grid.proofs.changes.add_inside.Goals as goal

pub returns-in_ok-push : goal.returns-in_ok-push
returns-in_ok-push c =
    gains_inside c.args.axis c.args.zone c.args.place _ c.args.places.now.items c.push.new.self.items (to_z-of_z _ c.args.place c.ranges.place) (omega (arith, ints, c.along-along.ensures.low))
    (omega (arith, ints, c.along-along.ensures.high)) c.in_ok-push.ensures.items
