use Rattle.std.proofs.Common.{IfOk, Option, [], sym, subst}
use Rattle.lists.proofs.Containing.{Contains-none}
use Rattle.geo_core.specs.declared.plane.Rect.{Rect}
use Rattle.fault_model.specs.FaultNames.{cells_of_window}
use Rattle.area_parts.specs.AskedCounts.{IsCountedAs}
use Rattle.layout_regions.specs.inside.FoundRects.{AreWantedRects}
use Rattle.layout_regions.proofs.RectLaws.{none_wanted}
use Rattle.layout_regions.proofs.rows.rects_of.Goals as goal

pub returns-in-None : goal.returns-in-None
returns-in-None c =
    let counted = IsCountedAs c.args.kind c.args.parts.now c.args.number c.args.side in
    rw (c.in-None.is, c.new.ensures.items) (none_wanted counted [] (λ d listed counts. Contains-none listed))

pub returns-in-Some : goal.returns-in-Some
returns-in-Some c =
    let counted = IsCountedAs c.args.kind c.args.parts.now c.args.number c.args.side in
    subst (λ (window : Option Rect). IfOk c.rects_in.result (λ rects. AreWantedRects counted (cells_of_window window) rects.items)) (sym c.in-Some.is) c.rects_in.ensures
