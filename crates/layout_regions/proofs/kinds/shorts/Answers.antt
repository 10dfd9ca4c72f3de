use Rattle.std.proofs.Common.{◌/◌, arith, sym, subst}
use Rattle.fault_model.specs.FaultNames.{cells_of}
use Rattle.short_area.specs.Labels.{TouchesTwoLabels}
use Rattle.layout_regions.specs.inside.FoundRects.{AreWantedRects}
use Rattle.layout_regions.proofs.PieceFaults.{touches_none}
use Rattle.layout_regions.proofs.RectLaws.{found_in, none_wanted}
use Rattle.layout_regions.proofs.kinds.shorts.Goals as goal

pub returns-then-side-lt2 : goal.returns-then-side-lt2
returns-then-side-lt2 c =
    let touched = TouchesTwoLabels c.args.pieces.now (c.args.side / 2) in
    let cells = cells_of c.args.window in
    subst (AreWantedRects touched cells) (sym c.new.ensures.items)
    (none_wanted touched cells (λ d listed t. touches_none c.args.pieces.now (c.args.side / 2) d (omega arith) t))

pub returns : goal.returns
returns c =
    let touched = TouchesTwoLabels c.args.pieces.now (c.args.side / 2) in
    found_in touched c.args.window touched (λ d has. (λ t. t, λ t. t)) c.short_rects.result (rw c.reach_of_side.ensures.half at c.short_rects.ensures.cells) c.short_rects.ensures.apart
