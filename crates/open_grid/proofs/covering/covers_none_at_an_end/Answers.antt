use Rattle.std.proofs.Common.{refl}
use Rattle.open_grid.proofs.CountLaws.{some_in_part}
use Rattle.open_grid.proofs.covering.covers_none_at_an_end.Goals as goal

pub returns-then-cover_none : goal.returns-then-cover_none
returns-then-cover_none c t = some_in_part c.args.boxes.now c.args.zone _ c.args.side c.cell_of.ensures (c.if-cover_none.ensures refl)

pub returns-else-cover_none : goal.returns-else-cover_none
returns-else-cover_none c t = some_in_part c.args.boxes.now c.args.zone _ c.args.side c.cell_of-else-cover_none.ensures (c.cover_none-else-cover_none.ensures t)
