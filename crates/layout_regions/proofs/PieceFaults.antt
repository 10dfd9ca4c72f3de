-- a defect touches two labels of a metal's pieces exactly where it makes a short of the metal
use Rattle.std.proofs.Common.{ℕ, ◌+◌, ◌/◌, ◌≤◌, ◌≡◌, refl, sym, ◌∙◌, List, arith, ◌↔◌, inl, inr}
use Rattle.lists.proofs.Words.{cases_lt, ints}
use Rattle.geo_core.specs.Plane.{Has}
use Rattle.geo_core.specs.declared.plane.Cell.{Cell}
use Rattle.geo_core.specs.declared.plane.Half.{Half}
use Rattle.geo_core.specs.declared.plane.Labelled.{Labelled}
use Rattle.fault_model.specs.FaultNames.{Cut, IsInFootprint, IsOn, IsShort}
use Rattle.fault_model.proofs.FaultLaws.{none_at, short_at}
use Rattle.short_area.specs.Labels.{TouchesLabel, TouchesTwoLabels}
use Rattle.area_parts.specs.AreaParts.{ArePiecesOf, IsInPieces}

-- a defect of radius 0 touches nothing
pub touches_none : (pieces : List Labelled) (r : ℕ) (c : Cell) → r ≡ 0 → TouchesTwoLabels pieces r c → ⊥
touches_none pieces r c e t = let hit = t.touches_one.hit.0 in let from = hit.from in let before = hit.before in omega (arith, ints)

module _ (covers : ℕ → Cell → Type 0) (cuts : List Cut) (m : ℕ) (pieces : List Labelled) (are : ArePiecesOf covers cuts m pieces) where
  module _ (r : ℕ) (c : Cell) where
    -- what is touched lies on the metal
    on_metal : (label : ℕ) → (t : TouchesLabel pieces r c label) → IsOn (covers m) t.half
    on_metal label t = (t.on.0, t.on.1, (are.cover t.on.0).0 (record { piece = t.piece; among = t.among; has = t.on.2 }))

    -- what lies on the metal lies on a piece
    piece_at : (h : Half) → (on : IsOn (covers m) h) → IsInPieces pieces on.0
    piece_at h on = (are.cover on.0).1 on.2

    on_piece : (h : Half) → (on : IsOn (covers m) h) → IsOn (Has (piece_at h on).piece.rect) h
    on_piece h on = (on.0, on.1, (piece_at h on).has)

    touches : (h : Half) → (on : IsOn (covers m) h) → IsInFootprint c (r + r) h → TouchesLabel pieces r c (piece_at h on).piece.label
    touches h on hit = let at = piece_at h on in record { piece = at.piece; among = at.among; labelled = refl; half = h; on = on_piece h on; hit = hit }

    touched_is : TouchesTwoLabels pieces r c ↔ IsShort covers cuts m (r + r) c
    touched_is = (
      λ t.
          let a = t.touches_one in
          let b = t.touches_other in
          record {
            one = a.half;
            other = b.half;
            one_on = on_metal t.one a;
            other_on = on_metal t.other b;
            one_hit = a.hit;
            other_hit = b.hit;
            apart = λ net. t.different (sym a.labelled ∙ (are.nets a.piece b.piece a.half b.half a.among b.among a.on b.on).1 net ∙ b.labelled);
          },
      λ short.
          let a = piece_at short.one short.one_on in
          let b = piece_at short.other short.other_on in
          let same = are.nets a.piece b.piece short.one short.other a.among b.among (on_piece short.one short.one_on) (on_piece short.other short.other_on) in
          record {
            one = a.piece.label;
            other = b.piece.label;
            touches_one = touches short.one short.one_on short.one_hit;
            touches_other = touches short.other short.other_on short.other_hit;
            different = λ e. short.apart (same.0 e);
          },
    )

  -- at any side, by half of it, rounded down; side 1 makes no short
  pub short_is : (s : ℕ) (c : Cell) → 1 ≤ s → TouchesTwoLabels pieces (s / 2) c ↔ IsShort covers cuts m s c
  short_is s c some = elim (cases_lt s 2) [
    | inl one ↦ (λ t. absurd (touches_none pieces (s / 2) c (omega arith) t), λ short. absurd (none_at covers cuts s m c (omega arith) short))
    | inr more ↦ let is = touched_is (s / 2) c in let at = short_at covers cuts s more m c in (λ t. at.1 (is.0 t), λ short. is.1 (at.0 short))
  ]
