use Rattle.std.proofs.Common.{arith, subst, sym, w32, ℤ}
use Rattle.lists.proofs.Words.{ints, to_z-of_z}
use Rattle.skyline_runs.proofs.Adding.{met_over, met_under, room_above}
use Rattle.skyline_runs.proofs.Resting.{activates_at, less_room}
use Rattle.skyline_runs.specs.inside.Skylines.{IsAddedTo, KeepsRest}
use Rattle.skyline_runs.proofs.skyline.Skyline.meet.Goals as goal

pub start-requires-clause-room : goal.start-requires-clause-room
start-requires-clause-room c = less_room c.args.self.now c.args.active.x1 c.args.end _ _ c.args.rect
    (room_above c.args.self.now c.args.rect c.args.active.x1 c.args.end c.requires.below c.requires.next.free) (omega (arith, ints)) (omega (arith, ints))

pub returns-then-rect-active : goal.returns-then-rect-active
returns-then-rect-active c = met_under c.args.self.now c.start.new.self c.args.active c.args.rect c.args.end _ c.requires.below c.requires.next c.requires.from
    (omega (arith, ints)) (grind (arith, to_z-of_z, c.max.ensures.value))
    (activates_at _ _ _ _ c.args.self.now c.start.new.self c.args.rect c.in_ok-start.ensures (omega (arith, ints)) (omega (arith, ints)))

pub returns : goal.returns
returns c =
    let met = met_over c.args.self.now c.take_out.new.self c.keep_rest.new.self c.args.active c.args.rect c.args.end c.requires.below c.requires.next c.requires.from
    (omega (arith, ints)) c.take_out.ensures
    (subst (λ (z : ℤ). KeepsRest c.take_out.new.self c.keep_rest.new.self c.args.active c.args.rect z) (to_z-of_z w32 c.args.end c.ranges.end) c.in_ok-keep_rest.ensures) in
    subst (λ (z : ℤ). IsAddedTo c.args.self.now c.keep_rest.new.self c.args.rect c.args.active.x0 c.args.end z) (sym (to_z-of_z w32 c.args.end c.ranges.end)) met
