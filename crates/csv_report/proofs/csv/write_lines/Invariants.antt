use Rattle.std.proofs.Common.{◌≡◌, ◌++◌, take, string_bytes}
use Rattle.lists.proofs.Words.{flat_map}
use Rattle.csv_report.specs.CsvText.{csv_line}
use Rattle.csv_report.proofs.csv.write_lines.Given as goal

abbrev pub invariant-loop-row : goal.invariant-loop-row
invariant-loop-row l = string_bytes l.text ≡ string_bytes l.fn.text ++ flat_map csv_line (take l.row-index l.rows)
