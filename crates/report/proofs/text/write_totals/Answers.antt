use Rattle.report.proofs.text.write_totals.Goals as goal

pub returns : goal.returns
returns c = rw (c.sum_of_kind-short.ensures, c.sum_of_kind-open.ensures, c.sum_of_kind-via.ensures, c.sum_of_all-all.ensures) at c.in_ok-writeln.ensures.bytes
