use Rattle.std.proofs.Common.{◌≡◌, ◌++◌, take, string_bytes}
use Rattle.lists.proofs.Words.{flat_map}
use Rattle.report.specs.Report.{line_text}
use Rattle.report.proofs.text.write_lines.Given as goal

abbrev pub invariant-loop-row : goal.invariant-loop-row
invariant-loop-row l = string_bytes l.text ≡ string_bytes l.fn.text ++ flat_map line_text (take l.row-index l.rows)
