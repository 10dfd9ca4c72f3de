use Rattle.lists.proofs.Words.{btree_map_len}
use Rattle.skyline_runs.proofs.Finishing.{IsFinishing}
use Rattle.skyline_runs.proofs.skyline.Skyline.finish.Given as goal

abbrev pub invariant-loop-rect : goal.invariant-loop-rect
invariant-loop-rect l = IsFinishing l.fn.self (record { active = l.active; runs = l.runs })

abbrev pub decreases-loop-rect : goal.decreases-loop-rect
decreases-loop-rect l = btree_map_len l.active
