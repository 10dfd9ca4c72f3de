use Rattle.std.proofs.Common.{ℕ}
use Rattle.lists.proofs.Words.{IfOk-weaker}
use Rattle.geo_core.specs.Plane.{IsInUnion}
use Rattle.fault_model.specs.FaultNames.{Tally, cells_of}
use Rattle.severing.specs.Severing.{IsSomeOpen}
use Rattle.open_grid.proofs.PartingLaws.{area_of}
use Rattle.open_grid.proofs.areas.open_area.Goals as goal

pub returns-clause-tally : goal.returns-clause-tally
returns-clause-tally c =
    let opens = IsSomeOpen c.args.islands.now c.args.side in
    IfOk-weaker c.union_area.result (λ (n : ℕ). Tally (IsInUnion c.in_ok-rects.rects.items) (cells_of c.args.window) n) (λ (n : ℕ). Tally opens (cells_of c.args.window) n)
    (λ (n : ℕ) tally. area_of opens c.args.window c.in_ok-rects.rects.items c.in_ok-rects.ensures n tally) (rw c.deref.ensures.value at c.union_area.ensures.tally)
