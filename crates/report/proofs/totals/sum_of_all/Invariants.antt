use Rattle.std.proofs.Common.{◌≡◌, ◌*◌, ◌^◌, ◌≤◌, take}
use Rattle.report.specs.Report.{total_of}
use Rattle.report.proofs.totals.sum_of_all.Given as goal

abbrev pub invariant-loop-row : goal.invariant-loop-row
invariant-loop-row l = record {
  sum : l.total ≡ total_of (take l.row-index l.rows);
  small : l.total ≤ l.row-index * 2 ^ 93;
}
