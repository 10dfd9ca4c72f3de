use Rattle.std.proofs.Common.{◌≡◌, ◌∙◌, w32, of_z, FitsSigned, ◌++◌, reverse, length, sym, ap, refl, rules, arith}
use Rattle.lists.proofs.Words.{ints, to_z-of_z}
use Rattle.outlines.specs.declared.run.Run.{Run}
use Rattle.outlines.proofs.FillingLaws.{first_right, right_ended, right_passed, taken_from}
use Rattle.outlines.proofs.filling.Filling.end_right.Goals as goal

pub returns-then-run-column-clause-ended : goal.returns-then-run-column-clause-ended
returns-then-run-column-clause-ended c =
    let filling = c.args.self.now in
    let run = c.in-Some.run' in
    let back = c.in_ok-push.ensures.items ∙ sym c.in-Some.ensures.items in
    rw (to_z-of_z w32 c.args.column c.ranges.column) (right_passed (length filling.left.items) c.args.column c.args.row filling _
    (record { runs = ap (λ r. filling.left.items ++ reverse r) back; done = refl }) c.requires.growing
    (λ d small same.
    let first = first_right filling.left.items filling.right.items c.pop.new.self.items run d c.in-Some.ensures.items in
    c.if-run-column.true (ap (of_z w32) (ap (λ (r : Run). r.low) (sym first) ∙ same))))

pub returns-clause-ended : goal.returns-clause-ended
returns-clause-ended c =
    let run = c.in-Some.run' in
    let high : FitsSigned w32 run.high = search rules in
    let begins : run.low ≡ c.args.column = omega (arith, ints, c.if-run-column.false) in
    let takes = taken_from run c.args.row c.args.self.now _ c.in-Some.ensures.items refl (rw (to_z-of_z w32 c.args.row c.ranges.row) at c.in_ok-finish_run.ensures) in
    rw (to_z-of_z w32 run.high high) (right_ended (length c.args.self.now.left.items) c.args.column run c.args.row c.args.self.now _ c.requires.growing takes begins)
