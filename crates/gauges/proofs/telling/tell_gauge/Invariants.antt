use Rattle.gauges.specs.GaugeViews.{view_of}
use Rattle.gauges.proofs.ToldGauges.{IsToldSome}
use Rattle.gauges.proofs.telling.tell_gauge.Given as goal

abbrev pub invariant-loop-row : goal.invariant-loop-row
invariant-loop-row g l =
    IsToldSome (view_of (λ b. (goal.Gauge-dyn g (b.vtable, b.value)).seen b.value) (λ b. (goal.Gauge-dyn g (b.vtable, b.value)).text b.value))
    l.rows l.row-index l.initial.gauge l.gauge
