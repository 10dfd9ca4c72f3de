use Rattle.std.proofs.Common.{arith}
use Rattle.lists.proofs.Words.{ints}
use Rattle.skyline_runs.proofs.Adding.{all_added, room_above}
use Rattle.skyline_runs.proofs.Resting.{activates_at, less_room}
use Rattle.skyline_runs.proofs.skyline.Skyline.add.Goals as goal

pub start-requires-clause-room : goal.start-requires-clause-room
start-requires-clause-room c =
    let a = c.in_ok-end.ensures.added in
    less_room c.add_over.new.self c.args.rect.x0 c.in_ok-end.end _ _ c.args.rect
    (room_above c.add_over.new.self c.args.rect c.args.rect.x0 c.in_ok-end.end a.below (λ x i. a.free x i.from i)) (omega (arith, ints)) (omega (arith, ints))

pub returns-clause-cells : goal.returns-clause-cells
returns-clause-cells c = (all_added c.args.self.now c.add_over.new.self c.start.new.self c.args.rect c.in_ok-end.end c.in_ok-end.ensures.added
    (activates_at _ _ _ _ c.add_over.new.self c.start.new.self c.args.rect c.in_ok-start.ensures (omega (arith, ints)) (omega (arith, ints)))).2

pub start-requires-clause-up_to : goal.start-requires-clause-up_to
start-requires-clause-up_to c = let a = c.in_ok-end.ensures.added.up_to in omega (arith, ints)

pub returns-clause-below : goal.returns-clause-below
returns-clause-below c = c.in_ok-start.ensures.below c.args.rect.y0 c.in_ok-end.ensures.added.below (omega (arith, ints))

pub returns-clause-few : goal.returns-clause-few
returns-clause-few c = λ xs s left right. let met = c.in_ok-end.ensures.few xs s left right in let more = c.saturating_add.ensures in omega arith

pub returns-clause-sides : goal.returns-clause-sides
returns-clause-sides c = λ xs s left right.
    let over = c.in_ok-end.ensures.added.sides xs s left right in
    (activates_at _ _ _ _ c.add_over.new.self c.start.new.self c.args.rect c.in_ok-start.ensures (omega (arith, ints)) (omega (arith, ints))).sides xs over.0 left over.1
