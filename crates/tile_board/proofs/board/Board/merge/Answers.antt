use Rattle.std.proofs.Common.{refl, subst, arith, ◌∙◌}
use Rattle.atomic_table.specs.Table.{keeps}
use Rattle.tile_board.specs.BoardLimits.{AreInRange}
use Rattle.tile_board.proofs.RunningLaws.{running_join, running_look}
use Rattle.tile_board.proofs.board.Board.merge.Goals as goal

pub join_seat-requires : goal.join_seat-requires
join_seat-requires c = (
  c.requires.belongs,
  c.requires.other_belongs,
  c.requires.no_places,
  omega (arith, c.args.self.now.words),
  λ s sound mine apart theirs. running_join c.args.self.now.table.shared.key s.words s.views c.args.seat.now.id c.args.other.id c.args.seat.now.me.0 c.args.other.me.0 mine apart theirs sound,
)

pub load-requires : goal.load-requires
load-requires c =
    let board = c.args.self.now in
    let seat = c.join_seat.new.seat in (
      c.join_seat.ensures.0 ∙ c.requires.belongs,
      omega (arith, board.words),
      λ s sound homes mine word.
          let told = running_look board.table.shared.key s.words s.views seat.id seat.me.0 (subst AreInRange board.key board.ranges) mine sound in
          (seat.me.0, keeps, tt, told.0, (refl, told.1.0, told.1.1)),
    )
