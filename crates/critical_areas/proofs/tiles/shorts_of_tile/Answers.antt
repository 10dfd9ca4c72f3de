use Rattle.std.proofs.Common.{ℕ, List, subst}
use Rattle.lists.proofs.Words.{IfOk-weaker}
use Rattle.geo_core.specs.declared.plane.Labelled.{Labelled}
use Rattle.fault_model.specs.FaultNames.{Tally, cells_of}
use Rattle.fault_model.proofs.TallyLaws.{Tally-none}
use Rattle.short_area.specs.Labels.{TouchesTwoLabels}
use Rattle.critical_areas.proofs.NearLaws.{near_shorts}
use Rattle.critical_areas.proofs.PieceLaws.{touches_none}
use Rattle.critical_areas.proofs.tiles.shorts_of_tile.Goals as goal

pub returns-then-reach-eq0 : goal.returns-then-reach-eq0
returns-then-reach-eq0 c = Tally-none (cells_of c.args.tile) (λ d listed touches. touches_none c.args.pieces.now c.args.reach d c.if-reach-eq0.true touches)

pub returns : goal.returns
returns c =
    let tile = c.args.tile in
    let r = c.args.reach in
    let index = c.in-Some.pieces in
    let Counted : List Labelled → ℕ → Type 0 = λ ps. Tally (TouchesTwoLabels ps r) (cells_of tile) in
    IfOk-weaker c.short_area-2.result (Counted c.deref.result.now) (Counted c.args.pieces.now) (λ (n : ℕ) counted.
    near_shorts tile r n c.args.pieces.now index.now c.in_ok-near.near.items (c.requires.index index c.in-Some.is) c.in_ok-near.ensures
    (subst (λ ps. Counted ps n) c.deref.ensures.value counted)) c.short_area-2.ensures.tally
