use Rattle.net_pairs.specs.inside.RunsOfLabels.{AreRunsTo}
use Rattle.net_pairs.proofs.runs.label_runs_within.Given as goal

abbrev pub invariant-loop-zone : goal.invariant-loop-zone
invariant-loop-zone l = AreRunsTo l.zone-items l.zone-index l.label l.runs.items l.listed.items
