-- which islands a contact piece carries
use Rattle.std.proofs.Common.{ℕ, ◌≡◌, sym, ap, ◌∙◌, subst, true, ◌==◌, ◌↔◌, arith, filter, List}
use Rattle.lists.proofs.Filtering.{Contains-filter, Contains-from_filter, Contains-filter_passes}
use Rattle.lists.proofs.Mapping.{Contains-map, Contains-map_from}
use Rattle.lists.proofs.Words.{nat_tests, and_parts, Decides-eqb}
use Rattle.geo_core.specs.Plane.{Has, IsInUnion}
use Rattle.geo_core.specs.declared.plane.Cell.{Cell}
use Rattle.geo_core.specs.declared.plane.Rect.{Rect}
use Rattle.fault_model.proofs.UnionLaws.{among_union, in_union}
use Rattle.net_extract.specs.ContactGroups.{IsGroupCell, carries_both, ends_of_contact, rects_between}
use Rattle.net_extract.specs.declared.pieces.ContactPiece.{ContactPiece}

-- a test of both islands that a contact piece passes or fails
pub carries_tells : (lower upper : ℕ) (contact : ContactPiece) → carries_both lower upper contact ≡ true → ends_of_contact contact ≡ (lower, upper)
carries_tells lower upper contact e =
    let parts = and_parts (contact.lower == lower) (contact.upper == upper) e in
    let pair : ℕ → ℕ → ℕ × ℕ = λ i k. (i, k) in
    ap (λ i. pair i contact.upper) ((Decides-eqb contact.lower lower).0 parts.0) ∙ ap (pair lower) ((Decides-eqb contact.upper upper).0 parts.1)

pub told_carries : (lower upper : ℕ) (contact : ContactPiece) → ends_of_contact contact ≡ (lower, upper) → carries_both lower upper contact ≡ true
told_carries lower upper contact e =
    let low : contact.lower ≡ lower = ap (λ (p : ℕ × ℕ). p.0) e in
    let high : contact.upper ≡ upper = ap (λ (p : ℕ × ℕ). p.1) e in
    grind (arith, nat_tests)

-- the rectangles of a group have the cells of its contact pieces
pub group_cells : (contacts : List ContactPiece) (lower upper : ℕ) (c : Cell) → IsInUnion (rects_between contacts lower upper) c ↔ IsGroupCell contacts (lower, upper) c
group_cells contacts lower upper c =
    let test = carries_both lower upper in
    let rect : ContactPiece → Rect = λ contact. contact.rect in (
      λ h.
          let from = Contains-map_from rect (filter test contacts) h.rect (among_union (rects_between contacts lower upper) c h) in
          record {
            contact = from.0;
            among = Contains-from_filter test contacts from.0 from.1;
            carries = carries_tells lower upper from.0 (Contains-filter_passes test contacts from.0 from.1);
            has = subst (λ (r : Rect). Has r c) (sym from.2) h.has;
          },
      λ k. in_union (rects_between contacts lower upper) k.contact.rect c
          (Contains-map rect (filter test contacts) k.contact (Contains-filter test contacts k.contact k.among (told_carries lower upper k.contact k.carries))) k.has,
    )
