use Rattle.std.proofs.Common.{refl, subst, arith, ◌∙◌}
use Rattle.atomic_table.specs.Table.{keeps}
use Rattle.tile_board.specs.Machine.{with_credit, MayCredit}
use Rattle.tile_board.specs.BoardLimits.{AreInRange}
use Rattle.tile_board.specs.declared.views.Limits.{Limits}
use Rattle.tile_board.proofs.RunningLaws.{credit_picked}
use Rattle.tile_board.proofs.board.Board.add.Goals as goal

pub fetch_add-requires : goal.fetch_add-requires
fetch_add-requires g c =
    let board = c.args.self.now in
    let v = c.args.seat.now.me.0 in
    let ranges = subst AreInRange board.key board.ranges in
    let may = subst (λ (limits : Limits). MayCredit limits v c.args.credit) board.key c.requires.may in (
      c.requires.belongs,
      omega (arith, board.words, c.requires.may.slot),
      λ s sound homes mine word.
          let kept = credit_picked board.table.shared.key g.C.Crediting.limits c.args.credit g.C.Crediting.credit s.words s.views c.args.seat.now.id v
          (c.requires.limits ∙ board.key) c.requires.picked ranges may mine sound in
          (with_credit g.C.Crediting.credit v, keeps, tt, kept.0, (refl, kept.1.0, kept.1.1)),
    )
