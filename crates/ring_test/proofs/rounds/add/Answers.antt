use Rattle.std.proofs.Common.{subst, sym, List, Option, Some, ◌++◌, ◌∷◌, [], ◌≡◌, ◌⊎◌, ◌↔◌, ℤ}
use Rattle.ring_test.specs.declared.runs.Run.{Run}
use Rattle.ring_test.specs.inside.NumberRuns.{IsInRunOf, IsInRuns}
use Rattle.ring_test.proofs.MergeLaws.{runs_more}
use Rattle.ring_test.proofs.rounds.add.Goals as goal

run_added : (old new : List Run) (run : Run) (given : Option Run) → new ≡ old ++ run ∷ [] → given ≡ Some run → (k : ℤ) → IsInRuns new k ↔ (IsInRuns old k ⊎ IsInRunOf given k)
run_added old new run given e f k = subst (λ g. IsInRuns new k ↔ (IsInRuns old k ⊎ IsInRunOf g k)) (sym f)
    (subst (λ xs. IsInRuns xs k ↔ (IsInRuns old k ⊎ IsInRunOf (Some run) k)) (sym e) (runs_more old run k))

pub returns-in_ok-push : goal.returns-in_ok-push
returns-in_ok-push c = run_added c.args.runs.now.items c.push.new.self.items c.in-Some.run' c.args.run c.in_ok-push.ensures.items c.in-Some.is
