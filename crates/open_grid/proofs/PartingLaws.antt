-- defects at one cell, and what they part of an island
use Rattle.std.proofs.Common.{ℕ, pos, ◌+ℤ◌, ◌≤◌, List, ◌↔◌, All, arith}
use Rattle.lists.proofs.Words.{ints, All-contains}
use Rattle.lists.proofs.Containing.{Contains-slice_get}
use Rattle.paths.proofs.PathLaws.{within}
use Rattle.geo_core.specs.Plane.{Has, IsInLayout, IsInUnion}
use Rattle.geo_core.specs.declared.plane.Cell.{Cell}
use Rattle.geo_core.specs.declared.plane.Half.{Half}
use Rattle.geo_core.specs.declared.plane.Rect.{Rect}
use Rattle.fault_model.specs.FaultNames.{IsInFootprint, IsIslandOpen, IsOn, IslandLists, Tally, cells_of}
use Rattle.fault_model.proofs.CellLaws.{Contains-cells_of}
use Rattle.fault_model.proofs.TallyLaws.{Tally-same}
use Rattle.fault_model.specs.IslandLists.{IsAnchoredIsland}
use Rattle.geo_core.specs.declared.bounds.TheConstants.{GREATEST_SIDE}
use Rattle.severing.specs.Severing.{IsSevered, IsSomeOpen}
use Rattle.open_grid.specs.inside.Wires.{HaveSeveringCells}
use Rattle.open_grid.specs.inside.ZoneNeeds.{HaveOpenCells}
use Rattle.open_grid.specs.inside.ZoneSteps.{IsToldOf}
use Rattle.open_grid.specs.declared.looked.Told.TheVariants.{Never, Always}

-- the law on defects and islands
abbrev pub DefectsSeverIslands : Type 0
DefectsSeverIslands = (island : IslandLists) (s : ℕ) (c : Cell) → IsAnchoredIsland island → IsIslandOpen island s c ↔ IsSevered island (IsInFootprint c s)

module _ (island : IslandLists) (in_layout : All IsInLayout island.pieces) (side : ℕ) (few : side ≤ GREATEST_SIDE) (cell : Cell) (out : (rect : Rect) → Has rect cell → ⊥) where
  -- a defect whose cell no rectangle may have does not reach a layout
  none_hit : (h : Half) → IsOn (IsInUnion island.pieces) h → IsInFootprint cell side h → ⊥
  none_hit h on hit =
      let u = on.2 in
      let small = All-contains IsInLayout island.pieces u.rect in_layout (Contains-slice_get island.pieces u.number u.rect u.at) in
      let a = hit.0.from in let b = hit.0.before in let d = hit.1.from in let e = hit.1.before in
      let f = on.1.0.from in let g = on.1.0.before in let k = on.1.1.from in let l = on.1.1.before in
      let m = u.has.across.from in let n = u.has.across.before in let o = u.has.up.from in let p = u.has.up.before in
      let x = small.across.least in let y = small.across.most in let z = small.up.least in let w = small.up.most in
      out (record {
        x0 = cell.i;
        y0 = cell.j;
        x1 = cell.i +ℤ pos 1;
        y1 = cell.j +ℤ pos 1;
        across = record { some = omega (arith, ints); least = omega (arith, ints); most = omega (arith, ints) };
        up = record { some = omega (arith, ints); least = omega (arith, ints); most = omega (arith, ints) };
      }) (record {
        across = record { from = omega (arith, ints); before = omega (arith, ints) };
        up = record { from = omega (arith, ints); before = omega (arith, ints) };
      })

  -- so it parts nothing
  pub not_open : IsIslandOpen island side cell → ⊥
  not_open o = o.parted o.tied.0 o.tied.1 o.tied.2 o.tied.3 (within (λ h on. (on, none_hit h on)) o.tied.4)

module _ (law : DefectsSeverIslands) where
  -- what an island says of the zone of one cell is the answer
  module _ (zone : Rect) (cell : Cell) (has : Has zone cell) (side : ℕ) (island : IslandLists) (sound : IsAnchoredIsland island) where
    pub never_open : IsToldOf zone side island Never → IsIslandOpen island side cell → ⊥
    never_open never o = never cell has ((law island side cell sound).0 o)

    pub always_open : IsToldOf zone side island Always → IsIslandOpen island side cell
    always_open always = (law island side cell sound).1 (always cell has)

  -- the cells at which defects part anchors of islands, by both definitions
  pub cells_of_both : (islands : List IslandLists) (window : Rect) (side : ℕ) (rects : List Rect) → All IsAnchoredIsland islands → HaveOpenCells islands side window rects
      → (c : Cell) → IsInUnion rects c ↔ (Has window c × IsSomeOpen islands side c)
  cells_of_both islands window side rects sound are c = (
    λ u. let h = (are c).0 u in let s = h.1 in
        (h.0, record { island = s.island; among = s.among; is_open = (law s.island side c (All-contains IsAnchoredIsland islands s.island sound s.among)).1 s.severed }),
    λ h. let o = h.1 in
        (are c).1 (h.0, record { island = o.island; among = o.among; severed = (law o.island side c (All-contains IsAnchoredIsland islands o.island sound o.among)).0 o.is_open }),
  )

  -- and those of one island
  pub open_cells_of_one : (island : IslandLists) (window : Rect) (side : ℕ) (rects : List Rect) → IsAnchoredIsland island → HaveSeveringCells island side window rects
      → (c : Cell) → IsInUnion rects c ↔ (Has window c × IsIslandOpen island side c)
  open_cells_of_one island window side rects sound are c = (
    λ u. let h = (are c).0 u in (h.0, (law island side c sound).1 h.1),
    λ h. (are c).1 (h.0, (law island side c sound).0 h.1),
  )

-- rectangles with those cells of a window count them
pub area_of : (P : Cell → Type 0) (window : Rect) (rects : List Rect) → ((c : Cell) → IsInUnion rects c ↔ (Has window c × P c)) → (n : ℕ) → Tally (IsInUnion rects) (cells_of window) n
    → Tally P (cells_of window) n
area_of P window rects are n = Tally-same (cells_of window) n (λ c at. let has = (Contains-cells_of window c).0 at in (λ u. ((are c).0 u).1, λ p. (are c).1 (has, p)))
