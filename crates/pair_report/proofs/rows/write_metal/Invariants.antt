use Rattle.std.proofs.Common.{[], ◌∷◌, ◌≡◌, string_bytes, take}
use Rattle.gauges.specs.GaugeViews.{views_of}
use Rattle.pair_report.specs.PairRows.{pair_row}
use Rattle.pair_report.specs.inside.Reporting.{AreReported}
use Rattle.lists.proofs.Words.{flat_map}
use Rattle.pair_report.proofs.rows.write_metal.Given as goal

abbrev pub invariant-loop-pair : goal.invariant-loop-pair
invariant-loop-pair g l = record {
  empty : string_bytes l.line ≡ [];
  reported : AreReported (flat_map (λ pair. pair_row l.measure l.size l.metal.layer pair ∷ []) (take l.pair-index l.pair-items))
      (views_of (λ b. (goal.PairGauge-dyn g (b.vtable, b.value)).pairs_seen b.value) (λ b. (goal.PairGauge-dyn g (b.vtable, b.value)).pairs_text b.value) l.fn.gauges.items)
      (views_of (λ b. (goal.PairGauge-dyn g (b.vtable, b.value)).pairs_seen b.value) (λ b. (goal.PairGauge-dyn g (b.vtable, b.value)).pairs_text b.value) l.gauges.items)
      l.fn.into.items l.into.items;
}
