use Rattle.std.proofs.Common.{◌≡◌, ◌*◌, ◌^◌, ◌≤◌, take}
use Rattle.report.specs.Report.{total_of_kind}
use Rattle.report.proofs.totals.sum_of_kind.Given as goal

abbrev pub invariant-loop-row : goal.invariant-loop-row
invariant-loop-row l = record {
  sum : l.total ≡ total_of_kind l.kind (take l.row-index l.rows);
  small : l.total ≤ l.row-index * 2 ^ 93;
}
