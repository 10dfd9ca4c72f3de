use Rattle.std.proofs.Common.{◌≡◌, ◌++◌, take, map}
use Rattle.net_pairs.specs.inside.RunsOfLabels.{with_label}
use Rattle.net_pairs.proofs.runs.add_labelled.Given as goal

abbrev pub invariant-loop-rect : goal.invariant-loop-rect
invariant-loop-rect l = l.runs.items ≡ l.fn.runs.items ++ map (with_label l.label) (take l.rect-index l.rects)
