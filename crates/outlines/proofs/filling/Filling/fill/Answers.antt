use Rattle.std.proofs.Common.{◌∙◌, w32, FitsSigned, length, rules, arith, ap, sym, subst}
use Rattle.lists.proofs.Words.{ints, to_z-of_z, on_ok_weaker}
use Rattle.outlines.specs.inside.FillingRuns.{HasRoom, EndsRight, IsFree, PutsRun, runs_of}
use Rattle.outlines.proofs.FillingLaws.{adds_from, grows_moved, left_within, room_to_fill, run_added}
use Rattle.outlines.proofs.filling.Filling.fill.Goals as goal

pub end_left-requires-clause-growing : goal.end_left-requires-clause-growing
end_left-requires-clause-growing c =
    let columns = c.args.columns in
    rw (to_z-of_z w32 c.args.row c.ranges.row)
    (grows_moved columns.low columns.high c.args.row c.args.self.now c.part.new.self c.args.self.now c.in_ok-part.ensures.moved c.requires.growing)

pub put_left-requires-clause-right : goal.put_left-requires-clause-right
put_left-requires-clause-right c =
    let right : FitsSigned w32 c.in_ok-high.high = search rules in
    let most = c.requires.columns.most in
    rw (to_z-of_z w32 c.in_ok-high.high right) (c.in_ok-high.ensures.ended.most (omega (arith, ints)))

pub put_left-requires-clause-room : goal.put_left-requires-clause-room
put_left-requires-clause-room c =
    let columns = c.args.columns in
    let moved = c.part.new.self in
    let number = length moved.left.items in
    let low : FitsSigned w32 columns.low = search rules in let high : FitsSigned w32 columns.high = search rules in
    let left : FitsSigned w32 c.in_ok-low.low = search rules in let right : FitsSigned w32 c.in_ok-high.high = search rules in
    let on_left = rw (to_z-of_z w32 columns.low low, to_z-of_z w32 c.args.row c.ranges.row) at c.in_ok-low.ensures.ended in
    let kept = ap length c.in_ok-low.ensures.left in
    let on_right = rw (to_z-of_z w32 columns.high high, to_z-of_z w32 c.args.row c.ranges.row) at c.in_ok-high.ensures.ended in
    let on_right' = subst (λ n. EndsRight n columns.high c.in_ok-high.high c.args.row c.end_left.new.self c.end_right.new.self) kept on_right in
    let parted = rw (to_z-of_z w32 columns.low low) at c.in_ok-part.ensures.parted in
    let free = subst (IsFree columns.low columns.high) (sym c.in_ok-part.ensures.moved.runs) c.requires.free in
    rw (to_z-of_z w32 c.in_ok-low.low left, to_z-of_z w32 c.in_ok-high.high right)
    (subst (λ n. HasRoom n c.in_ok-low.low c.in_ok-high.high (runs_of c.end_right.new.self)) (sym (ap length c.in_ok-high.ensures.left ∙ kept))
    (room_to_fill number columns.low columns.high c.in_ok-low.low c.in_ok-high.high c.args.row moved _ _ c.args.self.now c.requires.columns.some on_left on_right' free
    parted.left parted.right (left_within moved)))

pub returns : goal.returns
returns c =
    let columns = c.args.columns in
    let moved = c.part.new.self in
    let number = length moved.left.items in
    let low : FitsSigned w32 columns.low = search rules in let high : FitsSigned w32 columns.high = search rules in
    let left : FitsSigned w32 c.in_ok-low.low = search rules in let right : FitsSigned w32 c.in_ok-high.high = search rules in
    let on_left = rw (to_z-of_z w32 columns.low low, to_z-of_z w32 c.args.row c.ranges.row) at c.in_ok-low.ensures.ended in
    let kept = ap length c.in_ok-low.ensures.left in
    let on_right = rw (to_z-of_z w32 columns.high high, to_z-of_z w32 c.args.row c.ranges.row) at c.in_ok-high.ensures.ended in
    let on_right' = subst (λ n. EndsRight n columns.high c.in_ok-high.high c.args.row c.end_left.new.self c.end_right.new.self) kept on_right in
    let puts = rw (to_z-of_z w32 c.in_ok-low.low left, to_z-of_z w32 c.in_ok-high.high right, to_z-of_z w32 c.args.row c.ranges.row) at c.put_left.ensures in
    on_ok_weaker c.put_left.result
    (λ put. adds_from columns.low columns.high c.args.row c.args.self.now moved c.put_left.new.self c.in_ok-part.ensures.moved c.requires.growing
    (run_added number columns.low columns.high c.in_ok-low.low c.in_ok-high.high c.args.row moved _ _ c.put_left.new.self c.requires.columns.some on_left on_right'
    (subst (λ n. PutsRun n c.in_ok-low.low c.in_ok-high.high c.args.row c.end_right.new.self c.put_left.new.self) (ap length c.in_ok-high.ensures.left ∙ kept) put))) puts
