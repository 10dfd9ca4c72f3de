use Rattle.std.proofs.Common.{[], ◌∷◌}
use Rattle.gauges.specs.GaugeViews.{view_of}
use Rattle.gauges.proofs.ToldGauges.{AreToldBelow}
use Rattle.gauges.proofs.pair_telling.tell_pair_row.Given as goal

abbrev pub invariant-loop-gauge : goal.invariant-loop-gauge
invariant-loop-gauge g l =
    AreToldBelow (view_of (λ b. (goal.PairGauge-dyn g (b.vtable, b.value)).pairs_seen b.value) (λ b. (goal.PairGauge-dyn g (b.vtable, b.value)).pairs_text b.value))
    (l.row ∷ []) l.fn.gauges.items l.gauge-items l.gauge-index
