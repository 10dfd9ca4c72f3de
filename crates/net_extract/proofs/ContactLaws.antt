-- contact pieces of cuts
use Rattle.std.proofs.Common.{ℕ, ◌+◌, ◌<◌, ◌≡◌, refl, sym, ap, ◌∙◌, subst, List, [], ◌∷◌, ◌++◌, length, get_or, map, arith, inl, inr, Contains, Some, slice_get}
use Rattle.lists.proofs.Words.{get_or_past, slice_get_within, length_push}
use Rattle.lists.specs.Differing.{AreDifferent}
use Rattle.geo_core.specs.Plane.{Has, IsInUnion}
use Rattle.geo_core.specs.declared.plane.Cell.{Cell}
use Rattle.geo_core.specs.declared.plane.Labelled.{Labelled}
use Rattle.geo_core.specs.declared.plane.Rect.{Rect}
use Rattle.map_model.specs.declared.layers.Cut.{Cut}
use Rattle.net_extract.specs.inside.LabelledCells.{HasLabelled, AreMeetings, AreContactsOf, ArePartsIn}
use Rattle.net_extract.specs.inside.Numbering.{AreContactLists, islands_on}
use Rattle.net_extract.specs.declared.pieces.ContactPiece.{ContactPiece}
use Rattle.net_extract.proofs.MetalLaws.{at_old, at_new, before_or_past}
use Rattle.fault_model.proofs.UnionLaws.{in_union, among_union}
use Rattle.lists.proofs.Mapping.{Contains-map, Contains-map_from}

-- what a meeting is a part of, on the upper side
abbrev pub part_of : ContactPiece → Labelled
part_of contact = record { rect = contact.rect; label = contact.upper }

abbrev pub alike : Rect → Labelled
alike rect = record { rect = rect; label = 0 }

module _ (cut : List Rect) where
  alike_cell : (c : Cell) → IsInUnion cut c → HasLabelled (map alike cut) 0 c
  alike_cell c v = record { labelled = alike v.rect; among = Contains-map alike cut v.rect (among_union cut c v); carries = refl; has = v.has }

  cut_cell : (i : ℕ) (c : Cell) → HasLabelled (map alike cut) i c → IsInUnion cut c
  cut_cell i c h =
      let found = Contains-map_from alike cut h.labelled h.among in
      in_union cut found.0 c found.1 (subst (λ (l : Labelled). Has l.rect c) (sym found.2) h.has)

  pub parts_are : (rects like parts : List Labelled) (met : List ContactPiece) → like ≡ map alike cut → AreMeetings like rects met → parts ≡ map part_of met → ArePartsIn cut rects parts
  parts_are rects like parts met e are f i c = (
    λ h.
        let found = Contains-map_from part_of met h.labelled (subst (λ xs. Contains xs h.labelled) f h.among) in
        let both = (are found.0.lower i c).0 (record {
          contact = found.0;
          among = found.1;
          lower_is = refl;
          upper_is = ap (λ (l : Labelled). l.label) found.2 ∙ h.carries;
          has = subst (λ (l : Labelled). Has l.rect c) (sym found.2) h.has;
        }) in
        (cut_cell found.0.lower c (subst (λ xs. HasLabelled xs found.0.lower c) e both.0), both.1),
    λ both.
        let m = (are 0 i c).1 (subst (λ xs. HasLabelled xs 0 c) (sym e) (alike_cell c both.0), both.1) in
        record {
          labelled = part_of m.contact;
          among = subst (λ xs. Contains xs (part_of m.contact)) (sym f) (Contains-map part_of met m.contact m.among);
          carries = m.upper_is;
          has = m.has;
        },
  )

  pub contacts_are : (lower upper parts : List Labelled) (contacts : List ContactPiece) → ArePartsIn cut lower parts → AreMeetings parts upper contacts → AreContactsOf cut lower upper contacts
  contacts_are lower upper parts contacts are_parts are i k c = (
    λ h.
        let both = (are i k c).0 h in
        let part = (are_parts i c).0 both.0 in
        (part.0, part.1, both.1),
    λ all. (are i k c).1 ((are_parts i c).1 (all.0, all.1), all.2),
  )

module _ (lists : List (List Rect)) (islands : List (List Labelled)) (cuts : List Cut) where
  -- the contact pieces of the first so many cuts
  pub record AreFirstContacts (count : ℕ) (contacts : List (List ContactPiece)) : Type 0 where
    pub one_each : length contacts ≡ count
    pub exact : (k : ℕ) (cut : Cut) → k < count → slice_get cuts k ≡ Some cut →
        AreContactsOf (get_or lists (length islands + k) []) (islands_on islands cut.lower) (islands_on islands cut.upper) (get_or contacts k [])
    pub once : (k : ℕ) → AreDifferent (get_or contacts k [])

  pub no_cuts : AreFirstContacts 0 []
  no_cuts = record { one_each = refl; exact = λ k cut small at. absurd (omega arith); once = λ k i j d before within. absurd (omega arith) }

  pub all_cuts : (count : ℕ) (contacts : List (List ContactPiece)) → count ≡ length cuts → AreFirstContacts count contacts → AreContactLists lists islands cuts contacts
  all_cuts count contacts e are = record {
    one_each = are.one_each ∙ e;
    exact = λ k cut at. let small = slice_get_within cuts k cut at in are.exact k cut (omega arith) at;
    once = are.once;
  }

  pub one_cut_more : (count : ℕ) (old : List (List ContactPiece)) (cut : Cut) (new : List ContactPiece) → AreFirstContacts count old → slice_get cuts count ≡ Some cut
      → AreContactsOf (get_or lists (length islands + count) []) (islands_on islands cut.lower) (islands_on islands cut.upper) new → AreDifferent new
      → AreFirstContacts (count + 1) (old ++ new ∷ [])
  one_cut_more count old cut new are at is differ = record {
    one_each = length_push old new ∙ ap (λ n. n + 1) are.one_each;
    exact = λ k other small other_at.
        let one_each = are.one_each in
        elim (before_or_past k count) [
          | inl less ↦
              subst (AreContactsOf (get_or lists (length islands + k) []) (islands_on islands other.lower) (islands_on islands other.upper)) (sym (at_old old new k (omega arith)))
              (are.exact k other less other_at)
          | inr (inl e) ↦
              let same : cut ≡ other = cc (at, other_at, e) in
              subst (AreContactsOf (get_or lists (length islands + k) []) (islands_on islands other.lower) (islands_on islands other.upper)) (sym (at_new old new k (omega arith)))
              (subst (λ n. AreContactsOf (get_or lists (length islands + n) []) (islands_on islands other.lower) (islands_on islands other.upper) new) (sym e)
              (subst (λ (x : Cut). AreContactsOf (get_or lists (length islands + count) []) (islands_on islands x.lower) (islands_on islands x.upper) new) same is))
          | inr (inr past) ↦ absurd (omega arith)
        ];
    once = λ k.
        let one_each = are.one_each in
        elim (before_or_past k count) [
          | inl less ↦ subst AreDifferent (sym (at_old old new k (omega arith))) (are.once k)
          | inr (inl e) ↦ subst AreDifferent (sym (at_new old new k (omega arith))) differ
          | inr (inr past) ↦
              let none = get_or_past (old ++ new ∷ []) k [] (omega (arith, length_push old new)) in
              subst AreDifferent (sym none) (λ i j d before within. absurd (omega arith))
        ];
  }
