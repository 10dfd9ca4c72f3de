use Rattle.union_area.proofs.RunLaws.{AreCounted}
use Rattle.union_area.proofs.areas.area_of_runs.Given as goal

abbrev pub invariant-loop-run : goal.invariant-loop-run
invariant-loop-run l = AreCounted l.runs l.fn.window l.run-index l.area
