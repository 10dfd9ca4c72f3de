use Rattle.std.proofs.Common.{w32, refl, arith, ap, reverse, ◌++◌, ◌∙◌}
use Rattle.lists.proofs.Words.{ints, to_z-of_z}
use Rattle.outlines.proofs.FillingLaws.{none_put, put_on_left, run_put}
use Rattle.outlines.proofs.filling.Filling.put_left.Goals as goal

pub returns-then-low-high : goal.returns-then-low-high
returns-then-low-high c = none_put _ c.args.low c.args.high c.args.row c.args.self.now (omega (arith, ints, c.if-low-high.true)) c.requires.growing

pub returns : goal.returns
returns c =
    let left = c.args.self.now.left.items in let right = c.args.self.now.right.items in
    run_put _ c.args.low c.args.high c.args.row _ c.args.self.now _ (to_z-of_z w32 c.args.low c.ranges.low) (to_z-of_z w32 c.args.high c.ranges.high)
    (to_z-of_z w32 c.args.row c.ranges.row) c.requires.room (omega (arith, ints, c.if-low-high.false)) c.requires.growing refl
    (ap (λ l. l ++ reverse right) c.in_ok-push.ensures.items ∙ put_on_left left right _)
