use Rattle.std.proofs.Common.{refl, subst, arith, ◌∙◌}
use Rattle.atomic_table.specs.Table.{keeps}
use Rattle.tile_board.specs.Machine.{with_draw}
use Rattle.tile_board.specs.BoardLimits.{AreInRange}
use Rattle.tile_board.proofs.RunningLaws.{draw_picked}
use Rattle.tile_board.proofs.board.Board.draw_number.Goals as goal

pub fetch_add-requires : goal.fetch_add-requires
fetch_add-requires g c =
    let board = c.args.self.now in
    let ranges = subst AreInRange board.key board.ranges in (
      c.requires.belongs,
      omega (arith, board.words),
      λ s sound homes mine word.
          let kept = draw_picked board.table.shared.key g.D.Drawing.limits s.words s.views c.args.seat.now.id c.args.seat.now.me.0 (c.requires.limits ∙ board.key) ranges c.requires.left mine sound in
          (with_draw g.D.Drawing.limits.tickets _ c.args.seat.now.me.0, keeps, tt, kept.0, (refl, kept.1.0, kept.1.1)),
    )
