use Rattle.std.proofs.Common.{arith}
use Rattle.tile_board.proofs.RunningLaws.{running_split}
use Rattle.tile_board.proofs.board.Board.cut.Goals as goal

pub split_seat-requires : goal.split_seat-requires
split_seat-requires g c = (
  c.requires.belongs,
  omega (arith, c.args.self.now.words),
  λ s sound mine. running_split c.args.self.now.table.shared.key g.C.Cutting.draws s.words s.views c.args.seat.now.id c.args.seat.now.me.0
      (omega (arith, c.requires.picked, c.requires.enough)) mine sound,
)
