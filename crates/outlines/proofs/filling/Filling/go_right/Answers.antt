use Rattle.std.proofs.Common.{All, AllPairs, to_z, of_z, ◌≡◌, ◌<ℤ◌, ◌≤ℤ◌, ◌∙◌, ◌++◌, reverse, sym, subst, ap, arith, w32}
use Rattle.lists.proofs.Words.{ints, to_z-of_z, All-push}
use Rattle.outlines.specs.declared.filling.Filling.{Filling}
use Rattle.outlines.specs.declared.run.Run.{Run}
use Rattle.outlines.specs.inside.FillingRuns.{runs_of}
use Rattle.outlines.proofs.FillingLaws.{first_right, moved_left, parted_at}
use Rattle.outlines.proofs.filling.Filling.go_right.Goals as goal

pub returns-then-column-run-clause-parted : goal.returns-then-column-run-clause-parted
returns-then-column-run-clause-parted c =
    let state = c.loop-run.self in
    let run = c.in-Some.run' in
    let after : Filling = record { done = state.done; left = state.left; right = c.push.new.self } in
    let back = c.in_ok-push.ensures.items in
    let runs : runs_of after ≡ runs_of c.args.self.now = ap (λ r. state.left.items ++ reverse r) (back ∙ sym c.in-Some.ensures.items) ∙ c.loop-run.invariant.moved.runs in
    parted_at c.args.column after (subst (AllPairs (λ a b. a.high <ℤ b.low)) (sym runs) c.requires.apart) (rw (to_z-of_z w32 c.args.column c.ranges.column) at c.loop-run.invariant.left)
    (λ d small. subst (λ (r : Run). c.args.column ≤ℤ r.high) (sym (first_right state.left.items c.push.new.self.items c.pop.new.self.items run d back)) (omega (arith, ints, c.if-column-run.true)))

pub loop-run-preserved : goal.loop-run-preserved
loop-run-preserved c =
    let state = c.loop-run.self in
    let run = c.in-Some.run' in
    let there = c.in_ok-push-2.ensures.items in
    record {
      moved = record {
        runs = ap (λ l. l ++ reverse c.pop.new.self.items) there ∙ moved_left state.left.items state.right.items c.pop.new.self.items run c.in-Some.ensures.items ∙ c.loop-run.invariant.moved.runs;
        done = c.loop-run.invariant.moved.done;
      };
      left = subst (All (λ (r : Run). r.high <ℤ to_z w32 (of_z w32 c.args.column))) (sym there)
          (All-push (λ (r : Run). r.high <ℤ to_z w32 (of_z w32 c.args.column)) state.left.items run c.loop-run.invariant.left (omega (arith, ints, c.if-column-run.false)));
    }
