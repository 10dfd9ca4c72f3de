use Rattle.std.proofs.Common.{ℕ, ◌<◌, ◌≡◌, ◌-◌, ◌+◌, ◌/◌, ◌∙◌, IfOk, List, [], ap, arith, get_or, length, slice_index_or, sym, subst}
use Rattle.geo_core.specs.declared.plane.Labelled.{Labelled}
use Rattle.geo_core.specs.declared.plane.Rect.{Rect}
use Rattle.fault_model.specs.FaultNames.{IslandLists, cells_of}
use Rattle.questions.specs.declared.kind.Kind.{Kind}
use Rattle.severing.specs.Severing.{IsSomeOpen}
use Rattle.short_area.specs.Labels.{TouchesTwoLabels}
use Rattle.via_clusters.specs.Blocks.{CoversSomeBox}
use Rattle.area_parts.specs.AskedCounts.{IsCountedAs}
use Rattle.area_parts.proofs.laws.ListLaws.{read_list}
use Rattle.layout_regions.specs.inside.FoundRects.{AreWantedRects}
use Rattle.layout_regions.proofs.rows.rects_in.Goals as goal

-- a list that was read is the one with its number
list_read : {X : Type 0} (lists given : List (List X)) (number : ℕ) (list read : List X) → lists ≡ given → number < length given → list ≡ get_or lists number list → read ≡ list
    → read ≡ slice_index_or given number []
list_read lists given number list read same small is at =
    let within : number < length lists = omega (arith, ap length same) in
    at ∙ sym (read_list lists number list within is) ∙ ap (λ ls. get_or ls number []) same

pub returns-in-Short : goal.returns-in-Short
returns-in-Short c =
    let parts = c.args.parts.now in
    let number = c.args.number in
    let side = c.args.side in
    let cells = cells_of c.args.window in
    let small = c.requires.numbered.of_metal (λ via. cc (c.in-Short.is, via)) in
    let read = list_read c.as_slice.result.now parts.metals number c.index-as_slice-layer.result c.as_slice-pieces.result.now c.as_slice.ensures small c.index-as_slice-layer.is
    c.as_slice-pieces.ensures in
    let Found = λ (kind : Kind). IfOk c.shorts.result (λ rects. AreWantedRects (IsCountedAs kind parts number side) cells rects.items) in
    subst Found (sym c.in-Short.is)
    (subst (λ (pieces : List Labelled). IfOk c.shorts.result (λ rects. AreWantedRects (TouchesTwoLabels pieces (side / 2)) cells rects.items)) read c.shorts.ensures)

pub returns-in-Open : goal.returns-in-Open
returns-in-Open c =
    let parts = c.args.parts.now in
    let number = c.args.number in
    let side = c.args.side in
    let cells = cells_of c.args.window in
    let of_metal = c.requires.numbered.of_metal (λ via. cc (c.in-Open.is, via)) in
    let small : number < length parts.islands = omega (arith, of_metal, parts.islands_each) in
    let read = list_read c.as_slice-in-Open.result.now parts.islands number c.index-as_slice-layer-in-Open.result c.as_slice-islands.result.now c.as_slice-in-Open.ensures small
    c.index-as_slice-layer-in-Open.is c.as_slice-islands.ensures in
    let Found = λ (kind : Kind). IfOk c.opens.result (λ rects. AreWantedRects (IsCountedAs kind parts number side) cells rects.items) in
    subst Found (sym c.in-Open.is)
    (subst (λ (islands : List IslandLists). IfOk c.opens.result (λ rects. AreWantedRects (IsSomeOpen islands side) cells rects.items)) read c.opens.ensures)

pub returns-in-Via : goal.returns-in-Via
returns-in-Via c =
    let parts = c.args.parts.now in
    let number = c.args.number in
    let side = c.args.side in
    let cells = cells_of c.args.window in
    let k = number - length parts.metals in
    let behind = c.requires.numbered.behind_metals c.in-Via.is in
    let of_cut = c.requires.numbered.of_cut c.in-Via.is in
    let small : k < length parts.cuts = omega (arith, behind, of_cut) in
    let same : number - length c.as_slice-in-Via.result.now ≡ k = ap (λ (n : ℕ). number - n) (ap length c.as_slice-in-Via.ensures) in
    let boxes = c.as_slice-boxes.result.now in
    let at = subst (λ n. c.index-as_slice-cut.result ≡ get_or c.as_slice-in-Via-2.result.now n c.index-as_slice-cut.result) same c.index-as_slice-cut.is in
    let read = list_read c.as_slice-in-Via-2.result.now parts.cuts k c.index-as_slice-cut.result boxes c.as_slice-in-Via-2.ensures small at c.as_slice-boxes.ensures in
    let Found = λ (kind : Kind). IfOk c.blocks-in-Via.result (λ rects. AreWantedRects (IsCountedAs kind parts number side) cells rects.items) in
    subst Found (sym c.in-Via.is)
    (subst (λ (boxed : List Rect). IfOk c.blocks-in-Via.result (λ rects. AreWantedRects (CoversSomeBox boxed ((side + 1) / 2)) cells rects.items)) read c.blocks-in-Via.ensures)
