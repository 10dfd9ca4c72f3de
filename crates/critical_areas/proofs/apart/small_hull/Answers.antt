use Rattle.std.proofs.Common.{◌∙◌, ◌≡◌, List, ap, subst}
use Rattle.geo_core.specs.declared.plane.Rect.{Rect}
use Rattle.fault_model.specs.FaultNames.{IslandLists}
use Rattle.critical_areas.specs.RoundPieces.{IsRound}
use Rattle.critical_areas.proofs.apart.small_hull.Goals as goal

pub returns : goal.returns
returns c = λ x is.
    let same : c.in_ok-hull.hull ≡ x = cc in
    let pieces = c.as_slice.ensures ∙ ap (λ (island : IslandLists). island.pieces) c.island.view_is in
    subst (λ (r : Rect). IsRound r c.args.island.now.pieces) same
    (subst (λ (list : List Rect). IsRound c.in_ok-hull.hull list) pieces (c.hull_of.ensures c.in_ok-hull.hull c.in_ok-hull.was))
