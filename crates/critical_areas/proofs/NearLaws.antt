-- of what tells what a defect does at a cell, the list that matters is what is near
use Rattle.std.proofs.Common.{ℕ, ◌+◌, List, ◌↔◌, Contains, arith}
use Rattle.lists.proofs.Words.{IsPermutation, ints}
use Rattle.geo_core.specs.Plane.{Has}
use Rattle.geo_core.specs.declared.plane.Cell.{Cell}
use Rattle.geo_core.specs.declared.plane.Labelled.{Labelled}
use Rattle.geo_core.specs.declared.plane.Rect.{Rect}
use Rattle.fault_model.specs.FaultNames.{Tally, cells_of}
use Rattle.fault_model.proofs.CellLaws.{Contains-cells_of}
use Rattle.fault_model.proofs.HalfLaws.{some_half}
use Rattle.fault_model.proofs.TallyLaws.{Tally-same}
use Rattle.short_area.specs.Labels.{TouchesLabel, TouchesTwoLabels}
use Rattle.tile_plan.specs.NearTiles.{AreNear, HasExactlyNear, IsHit, IsNearTile}
use Rattle.tile_plan.proofs.laws.SeamLaws.{hit_is_near, near_in_any_order}
use Rattle.via_clusters.specs.Blocks.{CoversBox, CoversSomeBox}

-- pieces of which another list has those that the defect touches
module _ (xs ys : List Labelled) (r : ℕ) (c : Cell) (also : (piece : Labelled) → Contains xs piece → IsHit c (r + r) piece.rect → Contains ys piece) where
  label_by : (label : ℕ) → TouchesLabel xs r c label → TouchesLabel ys r c label
  label_by label t = record { piece = t.piece; among = also t.piece t.among (t.half, t.on, t.hit); labelled = t.labelled; half = t.half; on = t.on; hit = t.hit }

  touches_by : TouchesTwoLabels xs r c → TouchesTwoLabels ys r c
  touches_by t = record { one = t.one; other = t.other; touches_one = label_by t.one t.touches_one; touches_other = label_by t.other t.touches_other; different = t.different }

-- boxes of which another list has those that it covers
covers_by : (xs ys : List Rect) (r : ℕ) (c : Cell) → ((box : Rect) → Contains xs box → CoversBox box r c → Contains ys box) → CoversSomeBox xs r c → CoversSomeBox ys r c
covers_by xs ys r c also v = record { box = v.box; among = also v.box v.among v.covered; covered = v.covered }

-- a box that is covered is hit
covered_is_hit : (box : Rect) (r : ℕ) (c : Cell) → CoversBox box r c → IsHit c (r + r) box
covered_is_hit box r c covered =
    let d : Cell = record { i = box.x0; j = box.y0 } in
    let across = box.across.some in
    let up = box.up.some in
    let has : Has box d = record { across = record { from = omega (arith, ints); before = across }; up = record { from = omega (arith, ints); before = up } } in
    let half = some_half d in
    (half.0, (d, half.1, has), covered half.0 (d, half.1, has))

module _ (tile : Rect) (r : ℕ) (c : Cell) (inside : Has tile c) where
  hit_near : (rect : Rect) → IsHit c (r + r) rect → IsNearTile tile r rect
  hit_near rect hit = hit_is_near tile rect r (r + r) c inside (omega arith) hit

  -- what is near a tile tells what defects touch at its cells
  near_touches : (pieces near : List Labelled) → HasExactlyNear (λ (piece : Labelled). piece.rect) tile r pieces near → TouchesTwoLabels near r c ↔ TouchesTwoLabels pieces r c
  near_touches pieces near exact = (
    touches_by near pieces r c (λ piece among hit. ((exact.same piece).0 among).0),
    touches_by pieces near r c (λ piece among hit. (exact.same piece).1 (among, hit_near piece.rect hit)),
  )

  -- and what they cover there
  near_covers : (boxes near : List Rect) → HasExactlyNear (λ (box : Rect). box) tile r boxes near → CoversSomeBox near r c ↔ CoversSomeBox boxes r c
  near_covers boxes near exact = (
    covers_by near boxes r c (λ box among covered. ((exact.same box).0 among).0),
    covers_by boxes near r c (λ box among covered. (exact.same box).1 (among, hit_near box (covered_is_hit box r c covered))),
  )

-- what is counted over what is near a tile, in any order, is counted over all
module _ (tile : Rect) (r : ℕ) (n : ℕ) where
  pub near_shorts : (pieces index near : List Labelled) → IsPermutation pieces index → AreNear (λ (piece : Labelled). piece.rect) tile r index near
      → Tally (TouchesTwoLabels near r) (cells_of tile) n → Tally (TouchesTwoLabels pieces r) (cells_of tile) n
  near_shorts pieces index near order are =
      let exact = near_in_any_order (λ (piece : Labelled). piece.rect) tile r pieces index near order are in
      Tally-same (cells_of tile) n (λ c listed. near_touches tile r c ((Contains-cells_of tile c).0 listed) pieces near exact)

  pub near_blocks : (boxes index near : List Rect) → IsPermutation boxes index → AreNear (λ (box : Rect). box) tile r index near
      → Tally (CoversSomeBox near r) (cells_of tile) n → Tally (CoversSomeBox boxes r) (cells_of tile) n
  near_blocks boxes index near order are =
      let exact = near_in_any_order (λ (box : Rect). box) tile r boxes index near order are in
      Tally-same (cells_of tile) n (λ c listed. near_covers tile r c ((Contains-cells_of tile c).0 listed) boxes near exact)
