use Rattle.tile_board.specs.Hands.{view_of, BelongsTo}
use Rattle.tile_work.specs.inside.Working.{IsWorking}
use Rattle.tile_work.proofs.working.work.Given as goal

abbrev pub invariant-loop-ticket : goal.invariant-loop-ticket
invariant-loop-ticket g l = record {
  belongs : BelongsTo l.board l.hand;
  working : IsWorking (g.J.TileJob.tickets l.job) (g.J.TileJob.slots l.job) (g.J.TileJob.is_amount l.job) (view_of l.hand);
}

-- each round uses a draw up
abbrev pub decreases-loop-ticket : goal.decreases-loop-ticket
decreases-loop-ticket g l = (view_of l.hand).left
