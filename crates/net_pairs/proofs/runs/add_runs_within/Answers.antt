use Rattle.std.proofs.Common.{List, ap, map, ◌++◌, ◌∙◌}
use Rattle.geo_core.specs.declared.plane.Rect.{Rect}
use Rattle.net_pairs.specs.inside.RunsOfLabels.{with_label}
use Rattle.net_pairs.proofs.runs.add_runs_within.Goals as goal

pub returns : goal.returns
returns c = λ found. record {
  gained = c.in-Some.gained.items;
  new_is = c.in_ok-add_labelled.ensures ∙ ap (λ (rects : List Rect). c.args.runs.now.items ++ map (with_label c.args.label) rects) c.as_slice.ensures.value;
  same = rw c.in-Some.is at c.in_ok-gained.ensures.same;
  apart = rw c.in-Some.is at c.in_ok-gained.ensures.apart;
}
