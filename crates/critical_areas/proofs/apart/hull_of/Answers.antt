use Rattle.std.proofs.Common.{◌≡◌, List, subst, take_all}
use Rattle.geo_core.specs.declared.plane.Rect.{Rect}
use Rattle.critical_areas.specs.RoundPieces.{IsRound}
use Rattle.critical_areas.proofs.IslandLaws.{round_more}
use Rattle.critical_areas.proofs.apart.hull_of.Goals as goal

pub loop-piece-preserved : goal.loop-piece-preserved
loop-piece-preserved c =
    round_more c.args.pieces.now c.loop-piece.piece-index c.piece-item.result c.loop-piece.hull c.join-hull.result c.loop-piece-test.true c.piece-item.is c.join-hull.ensures c.loop-piece.invariant

pub returns : goal.returns
returns c = λ x is.
    let same : c.loop-piece.hull ≡ x = cc in
    subst (λ (r : Rect). IsRound r c.args.pieces.now) same
    (subst (λ (front : List Rect). IsRound c.loop-piece.hull front) (take_all c.loop-piece.piece-index c.args.pieces.now c.loop-piece-test.false) c.loop-piece.invariant)
