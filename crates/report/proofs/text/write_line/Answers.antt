use Rattle.std.proofs.Common.{append_assoc}
use Rattle.report.proofs.text.write_line.Goals as goal

pub returns : goal.returns
returns c = simp append_assoc at (rw (c.as_str-layer.ensures, c.letter-letter.ensures, c.product-sum.ensures.exact) at c.in_ok-writeln.ensures.bytes)
