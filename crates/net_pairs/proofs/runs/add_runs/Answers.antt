use Rattle.std.proofs.Common.{List, ap, map, ◌++◌, ◌∙◌}
use Rattle.lists.proofs.Words.{on_ok_weaker}
use Rattle.geo_core.specs.declared.plane.Rect.{Rect}
use Rattle.net_pairs.specs.inside.RunsOfLabels.{with_label}
use Rattle.net_pairs.proofs.runs.add_runs.Goals as goal

pub returns : goal.returns
returns c = on_ok_weaker c.add_labelled.result (λ e. record {
  gained = c.in_ok-gained.gained.items;
  new_is = e ∙ ap (λ (rects : List Rect). c.args.runs.now.items ++ map (with_label c.args.label) rects) c.as_slice.ensures.value;
  same = c.in_ok-gained.ensures.same;
  apart = c.in_ok-gained.ensures.apart;
}) c.add_labelled.ensures
