use Rattle.std.proofs.Common.{◌≡◌, true}
use Rattle.near_index.proofs.NearLaws.{gains_one, gains_other, gains_start}
use Rattle.near_index.proofs.nearby.add_near.Goals as goal
use Rattle.near_index.proofs.nearby.add_near.Goals.{then-is_near+in_ok-push, else-is_near}

pub loop-piece-init : goal.loop-piece-init
loop-piece-init g c = gains_start g.T.Rectangular.rect_of c.args.tile c.args.reach c.args.found.now.items

pub loop-piece-preserved : goal.loop-piece-preserved
loop-piece-preserved g c =
    let near = rw c.rect.ensures at c.is_near.ensures in
    elim c.if-is_near.branch [
      | then-is_near+in_ok-push w ↦ rw w.found-is
          (gains_one g.T.Rectangular.rect_of c.args.tile c.args.reach c.args.pieces.now c.loop-piece.piece-index c.piece-item.result c.loop-piece-test.true c.piece-item.is c.args.found.now.items
          c.loop-piece.found.items c.loop-piece.invariant w.push.new.self.items (near.0 w.if-is_near.true) w.in_ok-push.ensures.items)
      | else-is_near w ↦ rw w.found-is
          (gains_other g.T.Rectangular.rect_of c.args.tile c.args.reach c.args.pieces.now c.loop-piece.piece-index c.piece-item.result c.loop-piece-test.true c.piece-item.is c.args.found.now.items
          c.loop-piece.found.items c.loop-piece.invariant (λ n. let h : c.is_near.result ≡ true = near.1 n in cc (h, w.if-is_near.false)))
    ]
