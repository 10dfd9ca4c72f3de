use Rattle.run_laws.proofs.SameLaws.{same_task_alike_due, same_task_same_due}
use Rattle.run_laws.proofs.tiles_and_workers_change_no_byte.Goals as goal

pub returns-clause-bytes : goal.returns-clause-bytes
returns-clause-bytes c words other one same asks asks_too alike none contents found files inquiry also due too gauges pair_gauges =
    λ verdict is verdict_too is_too. same_task_same_due words other one same asks asks_too alike contents found files inquiry also due too
    gauges pair_gauges verdict is verdict_too is_too none

pub returns-clause-alike : goal.returns-clause-alike
returns-clause-alike c = same_task_alike_due
