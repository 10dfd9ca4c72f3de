use Rattle.std.proofs.Common.{w32, refl, arith, ap, reverse, ◌++◌, ◌∙◌}
use Rattle.lists.proofs.Words.{ints, to_z-of_z}
use Rattle.outlines.proofs.FillingLaws.{put_on_right, run_put}
use Rattle.outlines.proofs.filling.Filling.put_right.Goals as goal

pub returns-clause-put : goal.returns-clause-put
returns-clause-put c =
    let left = c.args.self.now.left.items in let right = c.args.self.now.right.items in
    run_put _ c.args.low c.args.high c.args.row _ c.args.self.now _ (to_z-of_z w32 c.args.low c.ranges.low) (to_z-of_z w32 c.args.high c.ranges.high)
    (to_z-of_z w32 c.args.row c.ranges.row) c.requires.room (omega (arith, ints, c.if-low-high.false)) c.requires.growing refl
    (ap (λ r. left ++ reverse r) c.in_ok-push.ensures.items ∙ put_on_right left right _)
