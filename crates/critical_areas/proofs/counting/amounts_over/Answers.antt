use Rattle.std.proofs.Common.{◌∙◌, IfOk, Some, ap, length, refl, sym, subst}
use Rattle.fault_model.specs.FaultNames.{cells_of}
use Rattle.tile_board.specs.Hands.{limits_of}
use Rattle.tile_plan.specs.Tiles.{tile_count}
use Rattle.tile_work.specs.Crediting.{IsMadeFor}
use Rattle.area_parts.specs.AskedCounts.{AreCounted}
use Rattle.critical_areas.specs.inside.Work.{IsAmountOfTile, Work}
use Rattle.critical_areas.proofs.CountingLaws.{found_counted, made_for_tiles}
use Rattle.critical_areas.proofs.counting.amounts_over.Goals as goal

pub run_tiles-requires-clause-made_for : goal.run_tiles-requires-clause-made_for
run_tiles-requires-clause-made_for g c κs within =
    let asked = c.args.asked in
    let limits = limits_of c.in_ok-board.board in
    let work : Work = record { parts = asked.parts.now; questions = asked.questions.now; plan = c.sensible_plan-plan.result } in
    subst (λ (w : Work). IsMadeFor limits (tile_count w.plan) (length w.questions) (IsAmountOfTile w)) (sym c.in_ok-tiles.ensures)
    (made_for_tiles work limits _ c.in_ok-board.ensures.limits c.count-2.ensures.count refl c.cap.ensures.greatest)

pub close_sums-requires-clause-made_for : goal.close_sums-requires-clause-made_for
close_sums-requires-clause-made_for g c =
    let asked = c.args.asked in
    let limits = limits_of c.in_ok-board.board in
    let work : Work = record { parts = asked.parts.now; questions = asked.questions.now; plan = c.sensible_plan-plan.result } in
    subst (λ (w : Work). IsMadeFor limits (tile_count w.plan) (length w.questions) (IsAmountOfTile w)) (sym c.in_ok-tiles.ensures)
    (made_for_tiles work limits _ c.in_ok-board.ensures.limits c.count-2.ensures.count refl c.cap.ensures.greatest)

pub returns : goal.returns
returns g c =
    let work = c.in_ok-tiles.tiles in
    let over = ap (λ (w : Work). cells_of w.plan.window) c.in_ok-tiles.ensures ∙ ap cells_of c.sensible_plan-plan.ensures.window in
    subst (λ (w : Work). IfOk c.close_sums.result (λ sums. AreCounted w.parts (cells_of c.args.window) w.questions sums.items)) c.in_ok-tiles.ensures
    (found_counted work (Some c.args.window) over c.close_sums.result c.close_sums.ensures.one_each c.close_sums.ensures.sums)
