-- pieces labelled by nets, and where a defect touches two of them
use Rattle.std.proofs.Common.{ℕ, ◌+◌, ◌/◌, ◌≤◌, ◌≡◌, refl, sym, ◌∙◌, List, arith, ◌↔◌, inl, inr}
use Rattle.lists.proofs.Words.{cases_lt, ints}
use Rattle.geo_core.specs.Plane.{Has}
use Rattle.geo_core.specs.declared.plane.Cell.{Cell}
use Rattle.geo_core.specs.declared.plane.Half.{Half}
use Rattle.geo_core.specs.declared.plane.Labelled.{Labelled}
use Rattle.geo_core.specs.declared.plane.Rect.{Rect}
use Rattle.fault_model.specs.FaultNames.{IsShort, IsOn, IsInFootprint, Cut}
use Rattle.fault_model.proofs.FaultLaws.{none_at, short_at}
use Rattle.short_area.specs.Labels.{TouchesLabel, TouchesTwoLabels}
use Rattle.tile_plan.specs.NearTiles.{HasExactlyNear, HitsLabel, HitsTwoLabels}
use Rattle.tile_plan.proofs.laws.SeamLaws.{same_two_labels}
use Rattle.area_parts.specs.AreaParts.{IsInPieces, ArePiecesOf}

-- a defect of radius 0 touches nothing
pub touches_none : (pieces : List Labelled) (r : ℕ) (c : Cell) → r ≡ 0 → TouchesTwoLabels pieces r c → ⊥
touches_none pieces r c e t = let hit = t.touches_one.hit.0 in let from = hit.from in let before = hit.before in omega (arith, ints)

module _ (covers : ℕ → Cell → Type 0) (cuts : List Cut) (m : ℕ) (pieces : List Labelled) (are : ArePiecesOf covers cuts m pieces) where
  module _ (s : ℕ) (c : Cell) where
    on_metal : (label : ℕ) → (t : HitsLabel pieces s c label) → IsOn (covers m) t.hit.0
    on_metal label t = let on = t.hit.1 in (on.0, on.1, (are.cover on.0).0 (record { piece = t.piece; among = t.among; has = on.2 }))

    in_piece : (h : Half) → (on : IsOn (covers m) h) → IsInPieces pieces on.0
    in_piece h on = (are.cover on.0).1 on.2

    hits : (h : Half) → (on : IsOn (covers m) h) → IsInFootprint c s h → HitsLabel pieces s c (in_piece h on).piece.label
    hits h on hit = let v = in_piece h on in record { piece = v.piece; among = v.among; labelled = refl; hit = (h, (on.0, on.1, v.has), hit) }

    -- a defect touches pieces of two labels exactly where it makes a short of the metal
    pub short_is : HitsTwoLabels pieces s c ↔ IsShort covers cuts m s c
    short_is = (
      λ t. record {
        one = t.hits_one.hit.0;
        other = t.hits_other.hit.0;
        one_on = on_metal t.one t.hits_one;
        other_on = on_metal t.other t.hits_other;
        one_hit = t.hits_one.hit.2;
        other_hit = t.hits_other.hit.2;
        apart = λ net.
            let a = t.hits_one in
            let b = t.hits_other in
            t.different (sym a.labelled ∙ (are.nets a.piece b.piece a.hit.0 b.hit.0 a.among b.among a.hit.1 b.hit.1).1 net ∙ b.labelled);
      },
      λ short.
          let v = in_piece short.one short.one_on in
          let w = in_piece short.other short.other_on in
          let on_v : IsOn (Has v.piece.rect) short.one = (short.one_on.0, short.one_on.1, v.has) in
          let on_w : IsOn (Has w.piece.rect) short.other = (short.other_on.0, short.other_on.1, w.has) in
          record {
            one = v.piece.label;
            other = w.piece.label;
            hits_one = hits short.one short.one_on short.one_hit;
            hits_other = hits short.other short.other_on short.other_hit;
            different = λ same. short.apart ((are.nets v.piece w.piece short.one short.other v.among w.among on_v on_w).0 same);
          },
    )

    -- and so do the pieces near a tile, at its cells
    pub near_short_is : (near : List Labelled) (tile : Rect) (reach : ℕ) → HasExactlyNear (λ (piece : Labelled). piece.rect) tile reach pieces near → Has tile c → s / 2 ≤ reach
        → HitsTwoLabels near s c ↔ IsShort covers cuts m s c
    near_short_is near tile reach exact has far =
        let same = same_two_labels pieces near tile reach s c exact has far in
        (λ t. short_is.0 (same.0 t), λ short. same.1 (short_is.1 short))

  -- a defect of a radius has the side that is twice the radius
  pub touched_is : (r : ℕ) (c : Cell) → TouchesTwoLabels pieces r c ↔ IsShort covers cuts m (r + r) c
  touched_is r c =
      let is = short_is (r + r) c in
      let hit = λ (label : ℕ) (t : TouchesLabel pieces r c label).
      let h : HitsLabel pieces (r + r) c label = record { piece = t.piece; among = t.among; labelled = t.labelled; hit = (t.half, t.on, t.hit) } in h in
      let touched = λ (label : ℕ) (h : HitsLabel pieces (r + r) c label).
      let t : TouchesLabel pieces r c label = record { piece = h.piece; among = h.among; labelled = h.labelled; half = h.hit.0; on = h.hit.1; hit = h.hit.2 } in t in (
        λ t. is.0 (record { one = t.one; other = t.other; hits_one = hit t.one t.touches_one; hits_other = hit t.other t.touches_other; different = t.different }),
        λ short. let h = is.1 short in record { one = h.one; other = h.other; touches_one = touched h.one h.hits_one; touches_other = touched h.other h.hits_other; different = h.different },
      )

  -- and so has one of another side that reaches no less far; side 1 makes no short
  pub reached_is : (s : ℕ) (c : Cell) → 1 ≤ s → TouchesTwoLabels pieces (s / 2) c ↔ IsShort covers cuts m s c
  reached_is s c some = elim (cases_lt s 2) [
    | inl one ↦ (λ t. absurd (touches_none pieces (s / 2) c (omega arith) t), λ short. absurd (none_at covers cuts s m c (omega arith) short))
    | inr more ↦ let is = touched_is (s / 2) c in let at = short_at covers cuts s more m c in (λ t. at.1 (is.0 t), λ short. is.1 (at.0 short))
  ]
