use Rattle.std.proofs.Common.{take}
use Rattle.gauges.specs.GaugeViews.{texts_of, views_of}
use Rattle.report.specs.Gains.{Gains}
use Rattle.gauges.proofs.pair_telling.append_pair_texts.Given as goal

abbrev pub invariant-loop-gauge : goal.invariant-loop-gauge
invariant-loop-gauge g l =
    Gains l.initial.into.items l.into.items (texts_of (views_of
    (λ b. (goal.PairGauge-dyn g (b.vtable, b.value)).pairs_seen b.value)
    (λ b. (goal.PairGauge-dyn g (b.vtable, b.value)).pairs_text b.value)
    (take l.gauge-index l.gauges)))
