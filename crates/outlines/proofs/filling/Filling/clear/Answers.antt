use Rattle.std.proofs.Common.{◌∙◌, w32, FitsSigned, length, rules, arith, ap, sym, subst}
use Rattle.lists.proofs.Words.{ints, to_z-of_z, on_ok_weaker}
use Rattle.outlines.specs.inside.FillingRuns.{HasRoom, IsTaken, PutsRun, runs_of}
use Rattle.outlines.proofs.FillingLaws.{drops_from, grows_moved, holder_right, room_before, room_behind, run_dropped, some_right_of, taken_kept}
use Rattle.outlines.proofs.filling.Filling.clear.Goals as goal

pub take-requires-clause-some : goal.take-requires-clause-some
take-requires-clause-some c =
    let columns = c.args.columns in
    let moved = c.part.new.self in
    let number = length moved.left.items in
    let taken = subst (IsTaken columns.low columns.high) (sym c.in_ok-part.ensures.moved.runs) c.requires.taken in
    let growing = grows_moved columns.low columns.high c.args.row c.args.self.now moved moved c.in_ok-part.ensures.moved c.requires.growing in
    let holds = holder_right columns.low columns.high _ moved c.requires.columns.some taken growing.apart c.in_ok-part.ensures.parted (omega (arith, ints)) in
    some_right_of moved holds.small

pub put_right-requires-clause-room : goal.put_right-requires-clause-room
put_right-requires-clause-room c =
    let columns = c.args.columns in
    let moved = c.part.new.self in
    let number = length moved.left.items in
    let taken = subst (IsTaken columns.low columns.high) (sym c.in_ok-part.ensures.moved.runs) c.requires.taken in
    let growing = grows_moved columns.low columns.high c.args.row c.args.self.now moved moved c.in_ok-part.ensures.moved c.requires.growing in
    let holds = holder_right columns.low columns.high _ moved c.requires.columns.some taken growing.apart c.in_ok-part.ensures.parted (omega (arith, ints)) in
    let run = c.in_ok-run.run' in
    let low : FitsSigned w32 columns.low = search rules in let high : FitsSigned w32 columns.high = search rules in
    let begin : FitsSigned w32 run.low = search rules in let end : FitsSigned w32 run.high = search rules in
    let takes = rw (to_z-of_z w32 c.args.row c.ranges.row) at c.in_ok-run.ensures.taken in
    let kept = ap length c.in_ok-run.ensures.left in
    rw (to_z-of_z w32 columns.high high, to_z-of_z w32 run.high end)
    (subst (λ n. HasRoom n columns.high run.high (runs_of c.take.new.self)) (sym kept)
    (room_behind number columns.low columns.high c.args.row run moved _ moved moved takes growing c.requires.columns.some holds))

pub put_right-requires-clause-growing : goal.put_right-requires-clause-growing
put_right-requires-clause-growing c =
    let moved = c.part.new.self in
    let growing = grows_moved c.args.columns.low c.args.columns.high c.args.row c.args.self.now moved moved c.in_ok-part.ensures.moved c.requires.growing in
    (taken_kept _ c.in_ok-run.run' _ moved c.take.new.self c.in_ok-run.ensures.taken (rw (to_z-of_z w32 c.args.row c.ranges.row) growing)).growing

pub put_left-requires-clause-room : goal.put_left-requires-clause-room
put_left-requires-clause-room c =
    let columns = c.args.columns in
    let moved = c.part.new.self in
    let number = length moved.left.items in
    let taken = subst (IsTaken columns.low columns.high) (sym c.in_ok-part.ensures.moved.runs) c.requires.taken in
    let growing = grows_moved columns.low columns.high c.args.row c.args.self.now moved moved c.in_ok-part.ensures.moved c.requires.growing in
    let holds = holder_right columns.low columns.high _ moved c.requires.columns.some taken growing.apart c.in_ok-part.ensures.parted (omega (arith, ints)) in
    let run = c.in_ok-run.run' in
    let low : FitsSigned w32 columns.low = search rules in let high : FitsSigned w32 columns.high = search rules in
    let begin : FitsSigned w32 run.low = search rules in let end : FitsSigned w32 run.high = search rules in
    let takes = rw (to_z-of_z w32 c.args.row c.ranges.row) at c.in_ok-run.ensures.taken in
    let kept = ap length c.in_ok-run.ensures.left in
    let puts = rw (to_z-of_z w32 columns.high high, to_z-of_z w32 run.high end, to_z-of_z w32 c.args.row c.ranges.row) at c.in_ok-put_right.ensures.put in
    let behind = subst (λ n. PutsRun n columns.high run.high c.args.row c.take.new.self c.put_right.new.self) kept puts in
    let still = ap length c.in_ok-put_right.ensures.left ∙ kept in
    rw (to_z-of_z w32 columns.low low, to_z-of_z w32 run.low begin)
    (subst (λ n. HasRoom n run.low columns.low (runs_of c.put_right.new.self)) (sym still)
    (room_before number columns.low columns.high c.args.row run moved _ _ moved takes growing c.requires.columns.some holds behind))

pub returns : goal.returns
returns c =
    let columns = c.args.columns in
    let moved = c.part.new.self in
    let number = length moved.left.items in
    let taken = subst (IsTaken columns.low columns.high) (sym c.in_ok-part.ensures.moved.runs) c.requires.taken in
    let growing = grows_moved columns.low columns.high c.args.row c.args.self.now moved moved c.in_ok-part.ensures.moved c.requires.growing in
    let holds = holder_right columns.low columns.high _ moved c.requires.columns.some taken growing.apart c.in_ok-part.ensures.parted (omega (arith, ints)) in
    let run = c.in_ok-run.run' in
    let low : FitsSigned w32 columns.low = search rules in let high : FitsSigned w32 columns.high = search rules in
    let begin : FitsSigned w32 run.low = search rules in let end : FitsSigned w32 run.high = search rules in
    let takes = rw (to_z-of_z w32 c.args.row c.ranges.row) at c.in_ok-run.ensures.taken in
    let kept = ap length c.in_ok-run.ensures.left in
    let puts = rw (to_z-of_z w32 columns.high high, to_z-of_z w32 run.high end, to_z-of_z w32 c.args.row c.ranges.row) at c.in_ok-put_right.ensures.put in
    let behind = subst (λ n. PutsRun n columns.high run.high c.args.row c.take.new.self c.put_right.new.self) kept puts in
    let still = ap length c.in_ok-put_right.ensures.left ∙ kept in
    let before = rw (to_z-of_z w32 columns.low low, to_z-of_z w32 run.low begin, to_z-of_z w32 c.args.row c.ranges.row) at c.put_left.ensures in
    on_ok_weaker c.put_left.result
    (λ put. drops_from columns.low columns.high c.args.row c.args.self.now moved c.put_left.new.self c.in_ok-part.ensures.moved c.requires.growing
    (run_dropped number columns.low columns.high c.args.row run moved _ _ c.put_left.new.self takes growing c.requires.columns.some holds behind
    (subst (λ n. PutsRun n run.low columns.low c.args.row c.put_right.new.self c.put_left.new.self) still put))) before
