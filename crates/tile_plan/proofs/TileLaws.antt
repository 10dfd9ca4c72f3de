-- the tiles of a window: each cell of it lies in one, and each is a rectangle
use Rattle.std.proofs.Common.{ℕ, ◌+◌, ◌*◌, ◌/◌, ◌%◌, ◌<◌, ◌≤◌, ◌^◌, ◌≡◌, refl, sym, ap, ◌∙◌, subst, arith, ℤ, pos, ◌+ℤ◌, ◌-ℤ◌, ◌<ℤ◌, ◌↔◌, length}
use Rattle.lists.proofs.Words.{ints, clamps, mul-le, int_min, length-map}
use Rattle.std.proofs.lemmas.Nat.{div_below, mod_below, div-add-mod', mul-add-lt, div-mul-add, mod-mul-add}
use Rattle.geo_core.specs.Plane.{Has, IsIn}
use Rattle.geo_core.specs.declared.plane.Cell.{Cell}
use Rattle.geo_core.specs.declared.plane.Rect.{Rect}
use Rattle.geo_core.proofs.RectLaws.{same_cells_same_rect}
use Rattle.fault_model.specs.FaultNames.{or_zero, range, row, cells_of}
use Rattle.fault_model.proofs.RangeLaws.{length-range, length-times, or_zero_is}
use Rattle.tile_plan.specs.TilesAlong.{IsInTileAlong}
use Rattle.tile_plan.specs.Tiles.{IsGreatestTile, IsInTile, IsTile, tile_count}
use Rattle.tile_plan.specs.declared.tiles.TilePlan.{TilePlan}
use Rattle.tile_plan.proofs.AlongLaws.{begins_before, count_some, ends_of_tile, room_of_tiles, same_number, tile_of, tile_within}

-- ---- how many cells

length_of : (low high : ℤ) → low <ℤ high → pos (or_zero (high -ℤ low)) ≡ high -ℤ low
length_of low high some = or_zero_is (high -ℤ low) (omega (arith, ints))

-- a rectangle's cells are as many as its width times its height
cells_of_sides : (rect : Rect) (width height : ℕ) → pos width ≡ rect.x1 -ℤ rect.x0 → pos height ≡ rect.y1 -ℤ rect.y0 → length (cells_of rect) ≡ width * height
cells_of_sides rect width height across up =
    let cells = length-times (row rect) (range rect.y0 rect.y1) (length (range rect.x0 rect.x1)) (λ j. length-map (range rect.x0 rect.x1) (λ i. record { i = i; j = j })) in
    let columns = length-range rect.x0 rect.x1 width across in
    let rows = length-range rect.y0 rect.y1 height up in
    let turned : height * width ≡ width * height = omega arith in
    cells ∙ ap (λ n. n * length (range rect.x0 rect.x1)) rows ∙ ap (λ n. height * n) columns ∙ turned

-- no tile is longer than one that starts at the low end, which is no longer than the edge
no_longer : (low high : ℤ) (edge start : ℕ) (low' high' first last : ℤ) (n : ℕ) → low' <ℤ high' → low' ≡ low +ℤ pos start → high' ≡ int_min (low +ℤ pos start +ℤ pos edge) high
    → first ≡ low → last ≡ int_min (low +ℤ pos edge) high → pos n ≡ last -ℤ first → or_zero (high' -ℤ low') ≤ n
no_longer low high edge start low' high' first last n some begins ends at_low at_high is = let size = length_of low' high' some in omega (arith, ints, clamps)

no_longer_than_edge : (low high : ℤ) (edge : ℕ) (first last : ℤ) (n : ℕ) → first ≡ low → last ≡ int_min (low +ℤ pos edge) high → pos n ≡ last -ℤ first → n ≤ edge
no_longer_than_edge low high edge first last n at_low at_high is = omega (arith, ints, clamps)

-- ---- numbers of tiles

module _ (plan : TilePlan) where
  pub columns_some : 1 ≤ plan.columns
  columns_some = count_some plan.window.x0 plan.window.x1 plan.edge plan.columns plan.across plan.window.across.some

  pub rows_some : 1 ≤ plan.rows
  rows_some = count_some plan.window.y0 plan.window.y1 plan.edge plan.rows plan.up plan.window.up.some

  pub tiles_some : 1 ≤ tile_count plan
  tiles_some = mul-le 1 1 plan.columns plan.rows columns_some rows_some

  module _ (k : ℕ) (less : k < tile_count plan) where
    pub column_less : k % plan.columns < plan.columns
    column_less = mod_below k plan.columns columns_some

    pub row_less : k / plan.columns < plan.rows
    row_less = div_below k plan.columns plan.rows columns_some (omega arith)

    -- each tile begins in the window
    pub begins_across : (plan.window.x0 +ℤ pos (k % plan.columns * plan.edge)) <ℤ plan.window.x1
    begins_across = begins_before plan.window.x0 plan.window.x1 plan.edge plan.columns plan.across (k % plan.columns) column_less

    pub begins_up : (plan.window.y0 +ℤ pos (k / plan.columns * plan.edge)) <ℤ plan.window.y1
    begins_up = begins_before plan.window.y0 plan.window.y1 plan.edge plan.rows plan.up (k / plan.columns) row_less

  -- ---- each cell of the window lies in exactly one tile

  pub some_tile : (c : Cell) → Has plan.window c → (k : ℕ) × (k < tile_count plan) × IsInTile plan k c
  some_tile c h =
      let x = tile_of plan.window.x0 plan.window.x1 plan.edge plan.columns plan.across c.i h.across in
      let y = tile_of plan.window.y0 plan.window.y1 plan.edge plan.rows plan.up c.j h.up in
      let k = y.0 * plan.columns + x.0 in
      let column : k % plan.columns ≡ x.0 = mod-mul-add y.0 plan.columns x.0 x.1 in
      let row : k / plan.columns ≡ y.0 = div-mul-add y.0 plan.columns x.0 x.1 in (
        k,
        mul-add-lt y.0 plan.columns x.0 plan.rows y.1 x.1,
        record {
          in_window = h;
          across = subst (λ n. IsInTileAlong plan.window.x0 plan.edge n c.i) (sym column) x.2;
          up = subst (λ n. IsInTileAlong plan.window.y0 plan.edge n c.j) (sym row) y.2;
        },
      )

  pub one_tile : (j k : ℕ) (c : Cell) → IsInTile plan j c → IsInTile plan k c → j ≡ k
  one_tile j k c h l =
      let column = same_number plan.window.x0 plan.edge (j % plan.columns) (k % plan.columns) c.i h.across l.across in
      let row = same_number plan.window.y0 plan.edge (j / plan.columns) (k / plan.columns) c.j h.up l.up in
      sym (div-add-mod' j plan.columns) ∙ ap (λ n. n * plan.columns + j % plan.columns) row ∙ ap (λ n. k / plan.columns * plan.columns + n) column ∙ div-add-mod' k plan.columns

  -- ---- each tile is a rectangle

  abbrev tile_at : (k : ℕ) → k < tile_count plan → Rect
  tile_at k less = record {
    x0 = plan.window.x0 +ℤ pos (k % plan.columns * plan.edge);
    y0 = plan.window.y0 +ℤ pos (k / plan.columns * plan.edge);
    x1 = int_min (plan.window.x0 +ℤ pos (k % plan.columns * plan.edge) +ℤ pos plan.edge) plan.window.x1;
    y1 = int_min (plan.window.y0 +ℤ pos (k / plan.columns * plan.edge) +ℤ pos plan.edge) plan.window.y1;
    across = tile_within plan.window.x0 plan.window.x1 (k % plan.columns * plan.edge) plan.edge _ _ refl refl plan.window.across plan.some (begins_across k less);
    up = tile_within plan.window.y0 plan.window.y1 (k / plan.columns * plan.edge) plan.edge _ _ refl refl plan.window.up plan.some (begins_up k less);
  }

  -- the places of a tile along both axes make its cells
  pub tile_by_axes : (k : ℕ) (tile : Rect) → ((x : ℤ) → IsIn tile.x0 tile.x1 x ↔ (IsIn plan.window.x0 plan.window.x1 x × IsInTileAlong plan.window.x0 plan.edge (k % plan.columns) x))
      → ((y : ℤ) → IsIn tile.y0 tile.y1 y ↔ (IsIn plan.window.y0 plan.window.y1 y × IsInTileAlong plan.window.y0 plan.edge (k / plan.columns) y)) → IsTile plan k tile
  tile_by_axes k tile columns rows = record {
    cells = λ c. (
      λ h. let x = (columns c.i).0 h.across in let y = (rows c.j).0 h.up in record { in_window = record { across = x.0; up = y.0 }; across = x.1; up = y.1 },
      λ h. record { across = (columns c.i).1 (h.in_window.across, h.across); up = (rows c.j).1 (h.in_window.up, h.up) },
    );
  }

  tile_at-is : (k : ℕ) (less : k < tile_count plan) → IsTile plan k (tile_at k less)
  tile_at-is k less = tile_by_axes k (tile_at k less)
      (ends_of_tile plan.window.x0 plan.window.x1 (k % plan.columns * plan.edge) plan.edge _ _ refl refl)
      (ends_of_tile plan.window.y0 plan.window.y1 (k / plan.columns * plan.edge) plan.edge _ _ refl refl)

  pub tile_is_rectangle : (k : ℕ) → k < tile_count plan → (tile : Rect) × IsTile plan k tile
  tile_is_rectangle k less = (tile_at k less, tile_at-is k less)

  pub same_tile : (k : ℕ) (one other : Rect) → IsTile plan k one → IsTile plan k other → one ≡ other
  same_tile k one other s t = same_cells_same_rect one other (λ c h. (t.cells c).1 ((s.cells c).0 h)) (λ c h. (s.cells c).1 ((t.cells c).0 h))

  -- ---- the first tile is the greatest

  -- where a tile begins and ends
  sides_across : (k : ℕ) (less : k < tile_count plan) (tile : Rect) → IsTile plan k tile
      → (tile.x0 ≡ plan.window.x0 +ℤ pos (k % plan.columns * plan.edge)) × (tile.x1 ≡ int_min (plan.window.x0 +ℤ pos (k % plan.columns * plan.edge) +ℤ pos plan.edge) plan.window.x1)
  sides_across k less tile is = let e = same_tile k tile (tile_at k less) is (tile_at-is k less) in (ap (λ (r : Rect). r.x0) e, ap (λ (r : Rect). r.x1) e)

  sides_up : (k : ℕ) (less : k < tile_count plan) (tile : Rect) → IsTile plan k tile
      → (tile.y0 ≡ plan.window.y0 +ℤ pos (k / plan.columns * plan.edge)) × (tile.y1 ≡ int_min (plan.window.y0 +ℤ pos (k / plan.columns * plan.edge) +ℤ pos plan.edge) plan.window.y1)
  sides_up k less tile is = let e = same_tile k tile (tile_at k less) is (tile_at-is k less) in (ap (λ (r : Rect). r.y0) e, ap (λ (r : Rect). r.y1) e)

  first_column : 0 % plan.columns ≡ 0
  first_column = let parts = div-add-mod' 0 plan.columns in omega arith

  first_row : 0 / plan.columns ≡ 0
  first_row = let some = columns_some in let less = div_below 0 plan.columns 1 columns_some (omega arith) in omega arith

  module _ (first : Rect) (is_first : IsTile plan 0 first) where
    starts_across : (first.x0 ≡ plan.window.x0) × (first.x1 ≡ int_min (plan.window.x0 +ℤ pos plan.edge) plan.window.x1)
    starts_across = let s = sides_across 0 tiles_some first is_first in from_start _ s.0 s.1 (ap (λ n. n * plan.edge) first_column) where
      from_start : (start : ℕ) → first.x0 ≡ plan.window.x0 +ℤ pos start → first.x1 ≡ int_min (plan.window.x0 +ℤ pos start +ℤ pos plan.edge) plan.window.x1 → start ≡ 0 * plan.edge
          → (first.x0 ≡ plan.window.x0) × (first.x1 ≡ int_min (plan.window.x0 +ℤ pos plan.edge) plan.window.x1)
      from_start start a b e = (omega (arith, ints), omega (arith, ints, clamps))

    starts_up : (first.y0 ≡ plan.window.y0) × (first.y1 ≡ int_min (plan.window.y0 +ℤ pos plan.edge) plan.window.y1)
    starts_up = let s = sides_up 0 tiles_some first is_first in from_start _ s.0 s.1 (ap (λ n. n * plan.edge) first_row) where
      from_start : (start : ℕ) → first.y0 ≡ plan.window.y0 +ℤ pos start → first.y1 ≡ int_min (plan.window.y0 +ℤ pos start +ℤ pos plan.edge) plan.window.y1 → start ≡ 0 * plan.edge
          → (first.y0 ≡ plan.window.y0) × (first.y1 ≡ int_min (plan.window.y0 +ℤ pos plan.edge) plan.window.y1)
      from_start start a b e = (omega (arith, ints), omega (arith, ints, clamps))

    module _ (width height : ℕ) (width_is : pos width ≡ first.x1 -ℤ first.x0) (height_is : pos height ≡ first.y1 -ℤ first.y0) where
      no_wider : (k : ℕ) → k < tile_count plan → (tile : Rect) → IsTile plan k tile → or_zero (tile.x1 -ℤ tile.x0) ≤ width
      no_wider k less tile is = let s = sides_across k less tile is in let t = starts_across in
          no_longer plan.window.x0 plan.window.x1 plan.edge (k % plan.columns * plan.edge) tile.x0 tile.x1 first.x0 first.x1 width tile.across.some s.0 s.1 t.0 t.1 width_is

      no_higher : (k : ℕ) → k < tile_count plan → (tile : Rect) → IsTile plan k tile → or_zero (tile.y1 -ℤ tile.y0) ≤ height
      no_higher k less tile is = let s = sides_up k less tile is in let t = starts_up in
          no_longer plan.window.y0 plan.window.y1 plan.edge (k / plan.columns * plan.edge) tile.y0 tile.y1 first.y0 first.y1 height tile.up.some s.0 s.1 t.0 t.1 height_is

      pub first_is_greatest : IsGreatestTile plan (width * height)
      first_is_greatest = record {
        reached = (0, first, tiles_some, is_first, cells_of_sides first width height width_is height_is);
        most = λ k tile less is.
            let w = or_zero (tile.x1 -ℤ tile.x0) in
            let h = or_zero (tile.y1 -ℤ tile.y0) in
            let cells = cells_of_sides tile w h (length_of tile.x0 tile.x1 tile.across.some) (length_of tile.y0 tile.y1 tile.up.some) in
            rw cells (mul-le w h width height (no_wider k less tile is) (no_higher k less tile is));
      }

      pub room_of_all : tile_count plan * (width * height) < 2 ^ 63
      room_of_all =
          let s = starts_across in let t = starts_up in
          let short = no_longer_than_edge plan.window.x0 plan.window.x1 plan.edge first.x0 first.x1 width s.0 s.1 width_is in
          let low = no_longer_than_edge plan.window.y0 plan.window.y1 plan.edge first.y0 first.y1 height t.0 t.1 height_is in
          let across = room_of_tiles plan.window.x0 plan.window.x1 plan.edge plan.columns width plan.window.across plan.across plan.short short in
          let up = room_of_tiles plan.window.y0 plan.window.y1 plan.edge plan.rows height plan.window.up plan.up plan.short low in
          let both = mul-le (plan.columns * width) (plan.rows * height) 3002000000 3002000000 across up in
          let e : plan.columns * plan.rows * (width * height) ≡ plan.columns * width * (plan.rows * height) = omega arith in
          rw e (omega arith)
