use Rattle.std.proofs.Common.{ℕ, List, subst}
use Rattle.lists.proofs.Words.{IfOk-weaker}
use Rattle.geo_core.specs.declared.plane.Rect.{Rect}
use Rattle.fault_model.specs.FaultNames.{Tally, cells_of}
use Rattle.via_clusters.specs.Blocks.{CoversSomeBox}
use Rattle.critical_areas.proofs.NearLaws.{near_blocks}
use Rattle.critical_areas.proofs.tiles.blocks_of_tile.Goals as goal

pub returns : goal.returns
returns c =
    let tile = c.args.tile in
    let r = c.args.radius in
    let index = c.in-Some.boxes in
    let Counted : List Rect → ℕ → Type 0 = λ bs. Tally (CoversSomeBox bs r) (cells_of tile) in
    IfOk-weaker c.via_area-2.result (Counted c.deref.result.now) (Counted c.args.boxes.now) (λ (n : ℕ) counted.
    near_blocks tile r n c.args.boxes.now index.now c.in_ok-near.near.items (c.requires.index index c.in-Some.is) c.in_ok-near.ensures
    (subst (λ bs. Counted bs n) c.deref.ensures.value counted)) c.via_area-2.ensures.tally
