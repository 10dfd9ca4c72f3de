use Rattle.std.proofs.Common.{arith}
use Rattle.lists.proofs.Words.{ints, on_ok_weaker}
use Rattle.skyline_runs.proofs.Joining.{joined_activated, none_activated, part_activated, room_of_part}
use Rattle.skyline_runs.proofs.skyline.Skyline.start.Goals as goal

pub returns-then-low-high : goal.returns-then-low-high
returns-then-low-high c = none_activated c.args.self.now c.args.low c.args.high c.args.rect c.requires.sound (omega (arith, ints))

pub joined_left-part-requires-clause-room : goal.joined_left-part-requires-clause-room
joined_left-part-requires-clause-room c = room_of_part c.args.low c.args.high c.new-part.result c.args.rect
    (omega (arith, ints)) (omega (arith, ints)) (omega (arith, ints)) (omega (arith, ints)) c.args.self.now c.requires.room

pub returns : goal.returns
returns c = on_ok_weaker c.activate.result (λ made. part_activated c.args.low c.args.high c.new-part.result c.args.rect
    (omega (arith, ints)) (omega (arith, ints)) (omega (arith, ints)) (omega (arith, ints)) c.args.self.now c.activate.new.self
    (joined_activated c.args.self.now c.joined_left-part.new.self c.activate.new.self c.new-part.result c.joined_left-part.result c.joined_left-part.ensures
    (joined_activated c.joined_left-part.new.self c.joined_right-part.new.self c.activate.new.self c.joined_left-part.result c.joined_right-part.result c.joined_right-part.ensures made)))
    c.activate.ensures
