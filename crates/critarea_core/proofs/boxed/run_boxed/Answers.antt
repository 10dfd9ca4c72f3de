use Rattle.critarea_core.proofs.laws.FreshRuns.{runs_nowhere}
use Rattle.critarea_core.proofs.boxed.run_boxed.Goals as goal

pub returns-in_default : goal.returns-in_default
returns-in_default g c = runs_nowhere c.args.words.now _ _ _ _ _ _ _ _ _ _ _ _
