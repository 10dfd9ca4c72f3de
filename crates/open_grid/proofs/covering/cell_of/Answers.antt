use Rattle.std.proofs.Common.{arith}
use Rattle.lists.proofs.Words.{ints}
use Rattle.open_grid.proofs.CountLaws.{cell_in_zone}
use Rattle.open_grid.proofs.covering.cell_of.Goals as goal

pub returns : goal.returns
returns c =
    cell_in_zone c.args.zone c.new.result c.args.column c.args.row c.requires.column c.requires.row (omega (arith, ints, c.new.ensures.left))
    (omega (arith, ints, c.new.ensures.right)) (omega (arith, ints, c.new.ensures.bottom)) (omega (arith, ints, c.new.ensures.top))
