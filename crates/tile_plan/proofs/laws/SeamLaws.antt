-- what is near a tile decides what defects do there
use Rattle.std.proofs.Common.{ℕ, ◌+◌, ◌/◌, ◌<◌, ◌≤◌, arith, List, ◌↔◌}
use Rattle.lists.proofs.Words.{ints, Contains-permutation, IsPermutation-sym, IsPermutation}
use Rattle.geo_core.specs.Plane.{Has, IsInUnion}
use Rattle.geo_core.specs.declared.plane.Cell.{Cell}
use Rattle.geo_core.specs.declared.plane.Labelled.{Labelled}
use Rattle.geo_core.specs.declared.plane.Rect.{Rect}
use Rattle.fault_model.proofs.SizeLaws.{footprint_near}
use Rattle.fault_model.proofs.UnionLaws.{among_union, in_union}
use Rattle.tile_plan.specs.NearTiles.{AreNear, HasExactlyNear, HitsLabel, HitsTwoLabels, IsHit, IsNearTile}
use Rattle.near_index.proofs.KeptLaws.{is_kept, kept_is}

-- ---- exactly what is near, in any order

module _ {T : Type 0} (rect_of : T → Rect) (tile : Rect) (reach : ℕ) where
  pub exactly_near : (things found : List T) → AreNear rect_of tile reach things found → HasExactlyNear rect_of tile reach things found
  exactly_near things found near = record { same = λ thing. (kept_is things found thing near, λ h. is_kept things found thing near h.0 h.1) }

  pub near_in_any_order : (things others found : List T) → IsPermutation things others → AreNear rect_of tile reach others found → HasExactlyNear rect_of tile reach things found
  near_in_any_order things others found order near = record {
    same = λ thing. (
      λ c. let h = kept_is others found thing near c in (Contains-permutation others things thing (IsPermutation-sym things others order) h.0, h.1),
      λ h. is_kept others found thing near (Contains-permutation things others thing order h.0) h.1,
    );
  }

-- ---- seams

-- half of a side, rounded down
half_of : (s : ℕ) → (s / 2 + s / 2 ≤ s) × (s < s / 2 + s / 2 + 2)
half_of s = (omega arith, omega arith)

-- a rectangle that a defect at a cell of the tile touches is near the tile
pub hit_is_near : (tile rect : Rect) (reach s : ℕ) (c : Cell) → Has tile c → s / 2 ≤ reach → IsHit c s rect → IsNearTile tile reach rect
hit_is_near tile rect reach s c has far hit =
    let half = half_of s in
    -- a defect that has a half square has a side
    let from = hit.2.0.from in
    let before = hit.2.0.before in
    let some : 1 ≤ s = omega (arith, ints) in
    let near = (footprint_near rect s (s / 2) some half.0 half.1 c).1 hit in
    (c, has, (near.0, near.1, (omega (arith, ints), omega (arith, ints))))

-- so is one that has a cell of the tile
pub met_is_near : (tile rect : Rect) (reach : ℕ) (c : Cell) → Has tile c → Has rect c → IsNearTile tile reach rect
met_is_near tile rect reach c has also = (c, has, (c, also, ((omega (arith, ints), omega (arith, ints)), (omega (arith, ints), omega (arith, ints)))))

module _ (pieces near : List Labelled) (tile : Rect) (reach s : ℕ) (c : Cell) (exact : HasExactlyNear (λ (piece : Labelled). piece.rect) tile reach pieces near) (has : Has tile c)
    (far : s / 2 ≤ reach) where
  pub same_label : (label : ℕ) → HitsLabel near s c label ↔ HitsLabel pieces s c label
  same_label label = (
    λ h. record { piece = h.piece; among = ((exact.same h.piece).0 h.among).0; labelled = h.labelled; hit = h.hit },
    λ h. record { piece = h.piece; among = (exact.same h.piece).1 (h.among, hit_is_near tile h.piece.rect reach s c has far h.hit); labelled = h.labelled; hit = h.hit },
  )

  pub same_two_labels : HitsTwoLabels near s c ↔ HitsTwoLabels pieces s c
  same_two_labels = (
    λ t. record { one = t.one; other = t.other; hits_one = (same_label t.one).0 t.hits_one; hits_other = (same_label t.other).0 t.hits_other; different = t.different },
    λ t. record { one = t.one; other = t.other; hits_one = (same_label t.one).1 t.hits_one; hits_other = (same_label t.other).1 t.hits_other; different = t.different },
  )

-- rectangles near a tile have the same cells of it as all of them
pub same_cells : (rects near : List Rect) (tile : Rect) (reach : ℕ) (c : Cell) → HasExactlyNear (λ rect. rect) tile reach rects near → Has tile c → IsInUnion near c ↔ IsInUnion rects c
same_cells rects near tile reach c exact has = (
  λ u. in_union rects u.rect c ((exact.same u.rect).0 (among_union near c u)).0 u.has,
  λ u. in_union near u.rect c ((exact.same u.rect).1 (among_union rects c u, met_is_near tile u.rect reach c has u.has)) u.has,
)
