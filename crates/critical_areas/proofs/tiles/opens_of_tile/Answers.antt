use Rattle.std.proofs.Common.{ℕ, All, List, ◌++◌, ◌/◌, ◌<◌, ◌≤◌, ◌∙◌, ◌↔◌, ap, arith, length, subst, sym}
use Rattle.lists.proofs.Words.{IfOk-weaker}
use Rattle.geo_core.specs.Plane.{Has, IsInUnion}
use Rattle.geo_core.specs.declared.plane.Rect.{Rect}
use Rattle.fault_model.specs.FaultNames.{Tally, cells_of}
use Rattle.fault_model.proofs.CellLaws.{Contains-cells_of}
use Rattle.fault_model.proofs.TallyLaws.{Tally-same}
use Rattle.severing.specs.Severing.{IsSomeOpen}
use Rattle.tile_plan.proofs.laws.SeamLaws.{exactly_near, same_cells}
use Rattle.critical_areas.specs.inside.IslandsApart.{IsOneOpen}
use Rattle.critical_areas.proofs.IslandLaws.{labels, near_within, tile_opens}
use Rattle.critical_areas.proofs.tiles.opens_of_tile.Goals as goal

pub cells_of_islands-requires-clause-within : goal.cells_of_islands-requires-clause-within
cells_of_islands-requires-clause-within c =
    let islands = c.args.islands.now in
    let both = c.in-Some.apart in
    let known = c.requires.apart both c.in-Some.is in
    let numbers = c.deref-2.ensures.value ∙ c.in_ok-numbers.ensures ∙ ap labels c.deref.ensures.value in
    subst (λ (list : List ℕ). All (λ number. number < length islands) list) (sym numbers)
    (near_within islands both.now.small both.now.large known c.args.tile c.reach_of_side.result c.in_ok-near.near.items c.in_ok-near.ensures)

pub returns : goal.returns
returns c =
    let islands = c.args.islands.now in
    let tile = c.args.tile in
    let side = c.args.side in
    let both = c.in-Some.apart in
    let opens = c.in-Some-opens.opens in
    let reach = c.reach_of_side.result in
    let old = c.in_ok-cells.cells.items in
    let found = c.in_ok-found.found.items in
    let near = c.in_ok-near.near.items in
    let known = c.requires.apart both c.in-Some.is in
    let half = c.reach_of_side.ensures.half in
    let far : side / 2 ≤ reach = omega arith in
    let exact = exactly_near (λ (rect : Rect). rect) tile 0 opens.now old c.in_ok-cells.ensures in
    let numbers = c.deref-2.ensures.value ∙ c.in_ok-numbers.ensures ∙ ap labels c.deref.ensures.value in
    let cells = c.deref-4.ensures.value ∙ c.in_ok-extend_from_slice.ensures.items ∙ ap (λ (rects : List Rect). old ++ rects) c.deref-3.ensures.value in
    IfOk-weaker c.union_area.result (Tally (IsInUnion c.deref-4.result.now) (cells_of tile)) (Tally (IsSomeOpen islands side) (cells_of tile)) (λ (n : ℕ) counted.
    Tally-same (cells_of tile) n (λ d listed.
    let has = (Contains-cells_of tile d).0 listed in
    let large = c.requires.opens both c.in-Some.is opens c.in-Some-opens.is d has in
    let same = same_cells opens.now old tile 0 d exact has in
    let here = subst (λ (list : List ℕ). IsInUnion found d ↔ (Has tile d × IsOneOpen islands list side d)) numbers (c.in_ok-found.ensures d) in
    tile_opens islands both.now.small both.now.large known tile reach near c.in_ok-near.ensures side far d has old found (λ u. large.0 (same.0 u), λ o. same.1 (large.1 o)) here)
    (subst (λ (rects : List Rect). Tally (IsInUnion rects) (cells_of tile) n) cells counted)) c.union_area.ensures.tally
