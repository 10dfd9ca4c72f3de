use Rattle.std.proofs.Common.{arith}
use Rattle.lists.proofs.Words.{ints}
use Rattle.fault_model.proofs.RangeLaws.{length-range}
use Rattle.union_area.proofs.CutLaws.{broad_by, not_broad}
use Rattle.union_area.proofs.middles.is_broad.Goals as goal

pub returns-then-width-height : goal.returns-then-width-height
returns-then-width-height c =
    let rect = c.args.rect in
    let across = rect.across.some in let up = rect.up.some in
    let width = length-range rect.x0 rect.x1 c.from-width.result (omega (arith, ints)) in
    let height = length-range rect.y0 rect.y1 c.from-height.result (omega (arith, ints)) in
    broad_by rect _ _ width height c.if-width-height.true

pub returns-else-width-height : goal.returns-else-width-height
returns-else-width-height c =
    let rect = c.args.rect in
    let across = rect.across.some in let up = rect.up.some in
    let width = length-range rect.x0 rect.x1 c.from-width.result (omega (arith, ints)) in
    let height = length-range rect.y0 rect.y1 c.from-height.result (omega (arith, ints)) in
    not_broad rect _ _ width height c.if-width-height.false
