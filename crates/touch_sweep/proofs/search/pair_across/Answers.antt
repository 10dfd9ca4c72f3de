use Rattle.std.proofs.Common.{◌∙◌}
use Rattle.touch_sweep.specs.inside.Strips.{crosses}
use Rattle.touch_sweep.proofs.SearchSteps.{IsByRow-filter}
use Rattle.touch_sweep.proofs.search.pair_across.Goals as goal

pub sweep-requires : goal.sweep-requires
sweep-requires c = record {
  points = c.requires.points;
  spans = IsByRow-filter (crosses c.args.strip.low c.args.strip.high) c.args.spans.now _ (c.as_slice.ensures.value ∙ c.in_ok-across.ensures.across) c.requires.spans;
}

pub returns-clause-across : goal.returns-clause-across
returns-clause-across c = rw (c.as_slice.ensures.value, c.in_ok-across.ensures.across) at c.in_ok-sweep.ensures.found
