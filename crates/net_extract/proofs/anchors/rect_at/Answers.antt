use Rattle.std.proofs.Common.{arith}
use Rattle.lists.proofs.Words.{ints}
use Rattle.net_extract.proofs.TerminalLaws.{is_cell}
use Rattle.net_extract.proofs.anchors.rect_at.Goals as goal

pub returns-clause-some : goal.returns-clause-some
returns-clause-some c = is_cell c.new.result c.args.cell (omega (arith, ints, c.new.ensures.left)) (omega (arith, ints, c.new.ensures.right)) (omega (arith, ints, c.new.ensures.bottom))
    (omega (arith, ints, c.new.ensures.top))
