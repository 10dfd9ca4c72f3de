use Rattle.std.proofs.Common.{◌≡◌, ◌≤◌, ◌*◌, ◌^◌, length, take}
use Rattle.pair_report.specs.PairRows.{rows_of_metal}
use Rattle.lists.proofs.Words.{flat_map}
use Rattle.pair_report.proofs.rows.count_rows.Given as goal

abbrev pub invariant-loop-metal : goal.invariant-loop-metal
invariant-loop-metal l = record {
  counted : l.count ≡ length (flat_map (λ metal. rows_of_metal l.tables.measure l.tables.size metal.layer metal.pairs) (take l.metal-index l.metal-items));
  few : l.count ≤ l.metal-index * 2 ^ 64;
}
