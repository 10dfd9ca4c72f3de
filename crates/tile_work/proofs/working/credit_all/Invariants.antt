use Rattle.std.proofs.Common.{◌≡◌}
use Rattle.tile_board.specs.Hands.{view_of, BelongsTo}
use Rattle.tile_work.specs.inside.Working.{IsCrediting}
use Rattle.tile_work.proofs.working.credit_all.Given as goal

abbrev pub invariant-loop-slot : goal.invariant-loop-slot
invariant-loop-slot g l = record {
  belongs : BelongsTo l.board l.hand;
  left : (view_of l.hand).left ≡ (view_of l.fn.hand).left;
  at : IsCrediting (g.J.TileJob.tickets l.job) (g.J.TileJob.slots l.job) (g.J.TileJob.is_amount l.job) l.ticket l.slot (view_of l.hand);
}
