use Rattle.std.proofs.Common.{take_all}
use Rattle.ring_test.proofs.HoleLaws.{on_none}
use Rattle.ring_test.proofs.MergeLaws.{runs_none}
use Rattle.ring_test.specs.Rings.{hole_of}
use Rattle.ring_test.proofs.ToldLaws.{piece_added}
use Rattle.ring_test.proofs.rounds.runs_of.Goals as goal

pub loop-piece-init : goal.loop-piece-init
loop-piece-init c = rw c.new-runs.ensures.items (λ k. (λ r. absurd (runs_none k r), λ (number, on). absurd (on_none _ on)))

pub loop-piece-preserved : goal.loop-piece-preserved
loop-piece-preserved c = piece_added (hole_of c.args.hole) c.args.pieces.now c.loop-piece.piece-index c.piece-item.result c.of_rect.result _ _
    c.loop-piece-test.true c.piece-item.is c.of_rect.ensures c.loop-piece.invariant c.in_ok-add_runs.ensures

pub returns : goal.returns
returns c = rw (take_all c.loop-piece.piece-index c.args.pieces.now c.loop-piece-test.false) at c.loop-piece.invariant
