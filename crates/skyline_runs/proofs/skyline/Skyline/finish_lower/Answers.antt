use Rattle.std.proofs.Common.{arith}
use Rattle.lists.proofs.Words.{ints, to_z-of_z, on_ok_weaker}
use Rattle.skyline_runs.proofs.Resting.{IsLowerPart, lower_finished, lower_interval, none_lower, room_lower}
use Rattle.skyline_runs.proofs.skyline.Skyline.finish_lower.Goals as goal

pub returns-then-rect-active : goal.returns-then-rect-active
returns-then-rect-active c = none_lower c.args.self.now c.args.active c.args.rect c.args.end c.requires.sound (omega (arith, ints))

pub new-requires-clause-across : goal.new-requires-clause-across
new-requires-clause-across c = lower_interval _ c.args.active.x0 c.args.active.x1 c.args.rect.x0 c.args.rect.x1 c.args.end _ _
    (grind (arith, to_z-of_z, c.max.ensures.value)) (grind (arith, to_z-of_z, c.min.ensures.value)) c.args.active.across c.args.rect.across
    c.requires.begins c.requires.ends c.requires.some c.requires.up_to

pub finish_one-requires-clause-room : goal.finish_one-requires-clause-room
finish_one-requires-clause-room c =
    let part : IsLowerPart c.args.active c.args.rect c.args.end c.new.result = record {
      left = grind (arith, to_z-of_z, c.max.ensures.value, c.new.ensures.left);
      right = grind (arith, to_z-of_z, c.min.ensures.value, c.new.ensures.right);
      bottom = omega (arith, ints);
      top = omega (arith, ints);
    } in
    room_lower c.args.active c.args.rect c.args.end c.new.result c.requires.reaches part c.args.self.now c.requires.columns c.requires.cells

pub returns : goal.returns
returns c =
    let part : IsLowerPart c.args.active c.args.rect c.args.end c.new.result = record {
      left = grind (arith, to_z-of_z, c.max.ensures.value, c.new.ensures.left);
      right = grind (arith, to_z-of_z, c.min.ensures.value, c.new.ensures.right);
      bottom = omega (arith, ints);
      top = omega (arith, ints);
    } in
    on_ok_weaker c.finish_one.result (lower_finished c.args.active c.args.rect c.args.end c.new.result c.requires.reaches part c.args.self.now c.finish_one.new.self) c.finish_one.ensures
