use Rattle.std.proofs.Common.{take}
use Rattle.gauges.specs.GaugeViews.{views_of}
use Rattle.pair_report.specs.PairRows.{rows_of_metal}
use Rattle.pair_report.specs.inside.Reporting.{AreReported}
use Rattle.lists.proofs.Words.{flat_map}
use Rattle.pair_report.proofs.rows.write_rows.Given as goal

abbrev pub invariant-loop-metal : goal.invariant-loop-metal
invariant-loop-metal g l =
    AreReported (flat_map (λ metal. rows_of_metal l.tables.measure l.tables.size metal.layer metal.pairs) (take l.metal-index l.metal-items))
    (views_of (λ b. (goal.PairGauge-dyn g (b.vtable, b.value)).pairs_seen b.value) (λ b. (goal.PairGauge-dyn g (b.vtable, b.value)).pairs_text b.value) l.fn.gauges.items)
    (views_of (λ b. (goal.PairGauge-dyn g (b.vtable, b.value)).pairs_seen b.value) (λ b. (goal.PairGauge-dyn g (b.vtable, b.value)).pairs_text b.value) l.gauges.items)
    l.fn.into.items l.into.items
