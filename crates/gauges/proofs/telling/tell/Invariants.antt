use Rattle.gauges.specs.GaugeViews.{view_of}
use Rattle.gauges.proofs.ToldGauges.{AreToldBelow}
use Rattle.gauges.proofs.telling.tell.Given as goal

abbrev pub invariant-loop-gauge : goal.invariant-loop-gauge
invariant-loop-gauge g l =
    AreToldBelow (view_of (λ b. (goal.Gauge-dyn g (b.vtable, b.value)).seen b.value) (λ b. (goal.Gauge-dyn g (b.vtable, b.value)).text b.value))
    l.rows l.fn.gauges.items l.gauge-items l.gauge-index
