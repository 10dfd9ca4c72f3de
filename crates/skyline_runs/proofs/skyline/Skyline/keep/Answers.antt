use Rattle.std.proofs.Common.{arith}
use Rattle.lists.proofs.Words.{ints, on_ok_weaker}
use Rattle.skyline_runs.proofs.Joining.{none_activated, part_activated, room_of_part}
use Rattle.skyline_runs.proofs.skyline.Skyline.keep.Goals as goal

pub returns-then-low-high : goal.returns-then-low-high
returns-then-low-high c = none_activated c.args.self.now c.args.low c.args.high c.args.rect c.requires.sound (omega (arith, ints))

pub activate-requires-clause-room : goal.activate-requires-clause-room
activate-requires-clause-room c = room_of_part c.args.low c.args.high c.new.result c.args.rect
    (omega (arith, ints)) (omega (arith, ints)) (omega (arith, ints)) (omega (arith, ints)) c.args.self.now c.requires.room

pub returns : goal.returns
returns c = on_ok_weaker c.activate.result (part_activated c.args.low c.args.high c.new.result c.args.rect
    (omega (arith, ints)) (omega (arith, ints)) (omega (arith, ints)) (omega (arith, ints)) c.args.self.now c.activate.new.self) c.activate.ensures
