use Rattle.std.proofs.Common.{arith, subst, w32, ℤ}
use Rattle.lists.proofs.Words.{ints, to_z-of_z, on_ok_weaker}
use Rattle.skyline_runs.proofs.Resting.{activates_at, all_kept, clear_between, less_room, rest_kept, room_between, room_right_of}
use Rattle.skyline_runs.specs.inside.Skylines.{FinishesLower}
use Rattle.skyline_runs.proofs.skyline.Skyline.keep_rest.Goals as goal

pub returns-then-active-rect : goal.returns-then-active-rect
returns-then-active-rect c = on_ok_weaker c.finish_one.result
    (all_kept c.args.self.now c.finish_one.new.self c.args.active c.args.rect c.args.end (omega (arith, ints))) c.finish_one.ensures

pub keep-requires-clause-room : goal.keep-requires-clause-room
keep-requires-clause-room c = less_room c.args.self.now c.args.active.x0 c.args.active.x1 _ _ c.args.active c.requires.room (omega (arith, ints)) (omega (arith, ints))

pub keep-requires-2-clause-room : goal.keep-requires-2-clause-room
keep-requires-2-clause-room c = room_right_of c.args.self.now c.keep.new.self _ _ _ _ c.args.active c.in_ok-keep.ensures c.requires.room
    (omega (arith, ints)) (omega (arith, ints)) (omega (arith, ints))

pub finish_lower-requires-clause-columns : goal.finish_lower-requires-clause-columns
finish_lower-requires-clause-columns c =
    room_between c.args.self.now c.keep.new.self c.keep-2.new.self c.keep-2.new.self c.args.active c.args.rect _ (omega (arith, ints)) (omega (arith, ints))
    (activates_at _ _ _ _ c.args.self.now c.keep.new.self c.args.active c.in_ok-keep.ensures (omega (arith, ints)) (omega (arith, ints)))
    (activates_at _ _ _ _ c.keep.new.self c.keep-2.new.self c.args.active c.in_ok-keep-2.ensures (omega (arith, ints)) (omega (arith, ints)))
    c.requires.room

pub finish_lower-requires-clause-cells : goal.finish_lower-requires-clause-cells
finish_lower-requires-clause-cells c =
    clear_between c.args.self.now c.keep.new.self c.keep-2.new.self c.keep-2.new.self c.args.active c.args.rect c.args.end (omega (arith, ints)) (omega (arith, ints))
    (activates_at _ _ _ _ c.args.self.now c.keep.new.self c.args.active c.in_ok-keep.ensures (omega (arith, ints)) (omega (arith, ints)))
    (activates_at _ _ _ _ c.keep.new.self c.keep-2.new.self c.args.active c.in_ok-keep-2.ensures (omega (arith, ints)) (omega (arith, ints)))
    c.requires.room

pub returns : goal.returns
returns c = on_ok_weaker c.finish_lower.result
    (λ lower. rest_kept c.args.self.now c.keep.new.self c.keep-2.new.self c.finish_lower.new.self c.args.active c.args.rect c.args.end c.requires.begins c.requires.ends
    (activates_at _ _ _ _ c.args.self.now c.keep.new.self c.args.active c.in_ok-keep.ensures (omega (arith, ints)) (omega (arith, ints)))
    (activates_at _ _ _ _ c.keep.new.self c.keep-2.new.self c.args.active c.in_ok-keep-2.ensures (omega (arith, ints)) (omega (arith, ints)))
    (subst (λ (z : ℤ). FinishesLower c.keep-2.new.self c.finish_lower.new.self c.args.active c.args.rect z) (to_z-of_z w32 c.args.end c.ranges.end) lower))
    c.finish_lower.ensures
