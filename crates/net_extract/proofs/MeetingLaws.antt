-- where rectangles of two lists have cells in common
use Rattle.std.proofs.Common.{Bool, true, ℕ, ◌<◌, ◌≡◌, sym, ap, ◌∙◌, subst, List, [], ◌∷◌, ◌++◌, length, get_or, map, arith, inl, inr, ◌↔◌, ◌&&◌, nat_eq, Contains, Option, Some, None, slice_get, option_to_list}
use Rattle.lists.proofs.Words.{IsEquivalence, dedup, IsPermutation, int_eq, and_parts, Decides-int_eq, nat_tests, and_equiv, on_equiv, nat_eq_equiv, Contains-dedup, Contains-from_dedup, Contains-permutation, IsPermutation-sym, length-map, Contains-append_left, Contains-append_right, Contains-append_cases, Contains-get_or, Contains-push, Contains-push_cases, slice_get_within}
use Rattle.std.proofs.lemmas.Cmp.{int_eq_equiv}
use Rattle.geo_core.proofs.RectLaws.{same_rect}
use Rattle.geo_core.specs.Plane.{Has}
use Rattle.geo_core.specs.declared.plane.Cell.{Cell}
use Rattle.geo_core.specs.declared.plane.Labelled.{Labelled}
use Rattle.geo_core.specs.declared.plane.Rect.{Rect}
use Rattle.touch_sweep.specs.Touching.{AreMeeting}
use Rattle.net_extract.specs.inside.LabelledCells.{AreAt, HasContact, AreMeetings}
use Rattle.net_extract.specs.declared.pieces.ContactPiece.{ContactPiece}
use Rattle.net_extract.proofs.IslandLaws.{rect_of, got_mapped}
use Rattle.lists.proofs.Containing.{Contains-cons_cases, Contains-head, Contains-none, Contains-slice_get, number_of}

no_contact : (i k : ℕ) (c : Cell) → HasContact [] i k c → ⊥
no_contact i k c h = Contains-none h.among

-- ---- two rectangles

-- the contact piece that was found for two rectangles tells what they have in common
abbrev pub IsFound : Labelled → Labelled → Option ContactPiece → Type 0
IsFound one other found = (i k : ℕ) (c : Cell) → HasContact (option_to_list found) i k c ↔ AreAt one other i k c

pub none_found : (one other : Labelled) → ((c : Cell) → Has one.rect c → Has other.rect c → ⊥) → IsFound one other None
none_found one other never i k c = (λ h. absurd (no_contact i k c h), λ m. absurd (never c m.one_has m.other_has))

pub one_found : (one other : Labelled) (contact : ContactPiece) → ((c : Cell) → Has contact.rect c ↔ (Has one.rect c × Has other.rect c)) → contact.lower ≡ one.label → contact.upper ≡ other.label
    → IsFound one other (Some contact)
one_found one other contact common lower_is upper_is i k c = (
  λ h.
      let same : contact ≡ h.contact = elim (Contains-cons_cases contact [] h.contact h.among) [ inl e ↦ e | inr n ↦ absurd (Contains-none n) ] in
      let has = (common c).0 (subst (λ (x : ContactPiece). Has x.rect c) (sym same) h.has) in
      record {
        one_carries = sym lower_is ∙ ap (λ (x : ContactPiece). x.lower) same ∙ h.lower_is;
        other_carries = sym upper_is ∙ ap (λ (x : ContactPiece). x.upper) same ∙ h.upper_is;
        one_has = has.0;
        other_has = has.1;
      },
  λ m. record {
    contact = contact;
    among = Contains-head contact [];
    lower_is = lower_is ∙ m.one_carries;
    upper_is = upper_is ∙ m.other_carries;
    has = (common c).1 (m.one_has, m.other_has);
  },
)

-- ---- the pairs that a search over rectangles without labels gives

pub exact_of : (lower upper : List Labelled) (lower_rects upper_rects : List Rect) (pairs listed : List (ℕ × ℕ)) → lower_rects ≡ map rect_of lower → upper_rects ≡ map rect_of upper → listed ≡ pairs
    → ((a b : ℕ) → Contains pairs (a, b) ↔ AreMeeting lower_rects upper_rects a b) → (a b : ℕ) → Contains listed (a, b) ↔ AreMeeting (map rect_of lower) (map rect_of upper) a b
exact_of lower upper lower_rects upper_rects pairs listed e f g exact a b =
    subst (λ ps. Contains ps (a, b) ↔ AreMeeting (map rect_of lower) (map rect_of upper) a b) (sym g)
    (subst (λ rs. Contains pairs (a, b) ↔ AreMeeting (map rect_of lower) rs a b) f
    (subst (λ rs. Contains pairs (a, b) ↔ AreMeeting rs upper_rects a b) e (exact a b)))

-- ---- pair by pair

-- one of the pairs of numbers tells of the cell
pub record IsMetBy (lower upper : List Labelled) (pairs : List (ℕ × ℕ)) (i k : ℕ) (c : Cell) : Type 0 where
  pub a : ℕ
  pub b : ℕ
  pub one : Labelled
  pub other : Labelled
  pub listed : Contains pairs (a, b)
  pub one_at : slice_get lower a ≡ Some one
  pub other_at : slice_get upper b ≡ Some other
  pub at : AreAt one other i k c

abbrev pub AreMetBy : List Labelled → List Labelled → List (ℕ × ℕ) → List ContactPiece → Type 0
AreMetBy lower upper pairs contacts = (i k : ℕ) (c : Cell) → HasContact contacts i k c ↔ IsMetBy lower upper pairs i k c

module _ (lower upper : List Labelled) where
  pub none_met : AreMetBy lower upper [] []
  none_met i k c = (λ h. absurd (no_contact i k c h), λ m. absurd (Contains-none m.listed))

  module _ (pairs : List (ℕ × ℕ)) (contacts : List ContactPiece) (are : AreMetBy lower upper pairs contacts) (a b : ℕ) (one other : Labelled)
      (one_at : slice_get lower a ≡ Some one) (other_at : slice_get upper b ≡ Some other) (found : Option ContactPiece) (is : IsFound one other found) where
    met_before : (i k : ℕ) (c : Cell) → IsMetBy lower upper pairs i k c → IsMetBy lower upper (pairs ++ (a, b) ∷ []) i k c
    met_before i k c m = record {
      a = m.a;
      b = m.b;
      one = m.one;
      other = m.other;
      listed = Contains-append_left pairs ((a, b) ∷ []) (m.a, m.b) m.listed;
      one_at = m.one_at;
      other_at = m.other_at;
      at = m.at;
    }

    -- what has the last pair's numbers are its rectangles
    met_now : (i k : ℕ) (c : Cell) (m : IsMetBy lower upper (pairs ++ (a, b) ∷ []) i k c) → ◌≡◌ {A = ℕ × ℕ} (a, b) (m.a, m.b) → AreAt one other i k c
    met_now i k c m e =
        let a_is : a ≡ m.a = ap (λ (p : ℕ × ℕ). p.0) e in
        let b_is : b ≡ m.b = ap (λ (p : ℕ × ℕ). p.1) e in
        let one_is : m.one ≡ one = cc (one_at, m.one_at, a_is) in
        let other_is : m.other ≡ other = cc (other_at, m.other_at, b_is) in
        subst (λ x. AreAt one x i k c) other_is (subst (λ x. AreAt x m.other i k c) one_is m.at)

    pub met_more : AreMetBy lower upper (pairs ++ (a, b) ∷ []) (contacts ++ option_to_list found)
    met_more i k c = (
      λ h. elim (Contains-append_cases contacts (option_to_list found) h.contact h.among) [
        | inl before ↦ met_before i k c ((are i k c).0 (record { contact = h.contact; among = before; lower_is = h.lower_is; upper_is = h.upper_is; has = h.has }))
        | inr now ↦ record {
          a = a;
          b = b;
          one = one;
          other = other;
          listed = Contains-push pairs (a, b);
          one_at = one_at;
          other_at = other_at;
          at = (is i k c).0 (record { contact = h.contact; among = now; lower_is = h.lower_is; upper_is = h.upper_is; has = h.has });
        }
      ],
      λ m. elim (Contains-push_cases pairs (a, b) (m.a, m.b) m.listed) [
        | inl before ↦
            let h = (are i k c).1 (record { a = m.a; b = m.b; one = m.one; other = m.other; listed = before; one_at = m.one_at; other_at = m.other_at; at = m.at }) in
            record { contact = h.contact; among = Contains-append_left contacts (option_to_list found) h.contact h.among; lower_is = h.lower_is; upper_is = h.upper_is; has = h.has }
        | inr now ↦
            let h = (is i k c).1 (met_now i k c m now) in
            record { contact = h.contact; among = Contains-append_right contacts (option_to_list found) h.contact h.among; lower_is = h.lower_is; upper_is = h.upper_is; has = h.has }
      ],
    )

  -- ---- all pairs that meet

  module _ (pairs : List (ℕ × ℕ)) (exact : (a b : ℕ) → Contains pairs (a, b) ↔ AreMeeting (map rect_of lower) (map rect_of upper) a b) where
    -- the numbers of a pair are those of rectangles
    pub pair_within : (i : ℕ) → i < length pairs → ((get_or pairs i (0, 0)).0 < length lower) × ((get_or pairs i (0, 0)).1 < length upper)
    pair_within i small =
        let pair = get_or pairs i (0, 0) in
        let m = (exact pair.0 pair.1).0 (Contains-get_or pairs i (0, 0) small) in
        let first = slice_get_within (map rect_of lower) pair.0 m.one m.one_at in
        let second = slice_get_within (map rect_of upper) pair.1 m.other m.other_at in
        (omega (arith, length-map lower rect_of), omega (arith, length-map upper rect_of))

    pub all_met : (contacts : List ContactPiece) → AreMetBy lower upper pairs contacts → AreMeetings lower upper contacts
    all_met contacts are i k c = (
      λ h.
          let m = (are i k c).0 h in (
            record { labelled = m.one; among = Contains-slice_get lower m.a m.one m.one_at; carries = m.at.one_carries; has = m.at.one_has },
            record { labelled = m.other; among = Contains-slice_get upper m.b m.other m.other_at; carries = m.at.other_carries; has = m.at.other_has },
          ),
      λ both.
          let one = both.0 in
          let other = both.1 in
          let a = number_of lower one.labelled one.among in
          let b = number_of upper other.labelled other.among in
          (are i k c).1 (record {
            a = a.0;
            b = b.0;
            one = one.labelled;
            other = other.labelled;
            listed = (exact a.0 b.0).1 (record {
              one = one.labelled.rect;
              other = other.labelled.rect;
              one_at = got_mapped rect_of lower a.0 one.labelled a.1;
              other_at = got_mapped rect_of upper b.0 other.labelled b.1;
              overlap = (c, one.has, other.has);
            });
            one_at = a.1;
            other_at = b.1;
            at = record { one_carries = one.carries; other_carries = other.carries; one_has = one.has; other_has = other.has };
          }),
    )

-- ---- contact pieces, each once

abbrev pub rect_eq : Rect → Rect → Bool
rect_eq a b = int_eq a.x0 b.x0 && (int_eq a.y0 b.y0 && (int_eq a.x1 b.x1 && int_eq a.y1 b.y1))

-- what `==` answers at contact pieces
abbrev pub piece_eq : ContactPiece → ContactPiece → Bool
piece_eq a b = rect_eq a.rect b.rect && (nat_eq a.lower b.lower && nat_eq a.upper b.upper)

rect_eq_equiv : IsEquivalence rect_eq
rect_eq_equiv = and_equiv (on_equiv (λ (r : Rect). r.x0) int_eq_equiv) (and_equiv (on_equiv (λ (r : Rect). r.y0) int_eq_equiv)
    (and_equiv (on_equiv (λ (r : Rect). r.x1) int_eq_equiv) (on_equiv (λ (r : Rect). r.y1) int_eq_equiv)))

piece_eq_equiv : IsEquivalence piece_eq
piece_eq_equiv = and_equiv (on_equiv (λ (p : ContactPiece). p.rect) rect_eq_equiv) (and_equiv (on_equiv (λ (p : ContactPiece). p.lower) nat_eq_equiv)
    (on_equiv (λ (p : ContactPiece). p.upper) nat_eq_equiv))

same_rects : (a b : Rect) → rect_eq a b ≡ true → a ≡ b
same_rects a b e =
    let x0 = int_eq a.x0 b.x0 in let y0 = int_eq a.y0 b.y0 in let x1 = int_eq a.x1 b.x1 in let y1 = int_eq a.y1 b.y1 in
    let last_three = (and_parts x0 (y0 && (x1 && y1)) e).1 in
    let last_two = (and_parts y0 (x1 && y1) last_three).1 in
    same_rect a b ((Decides-int_eq a.x0 b.x0).0 (and_parts x0 (y0 && (x1 && y1)) e).0) ((Decides-int_eq a.y0 b.y0).0 (and_parts y0 (x1 && y1) last_three).0)
    ((Decides-int_eq a.x1 b.x1).0 (and_parts x1 y1 last_two).0) ((Decides-int_eq a.y1 b.y1).0 (and_parts x1 y1 last_two).1)

same_piece : (a b : ContactPiece) → piece_eq a b ≡ true → a ≡ b
same_piece a b e =
    let same_lower = nat_eq a.lower b.lower in
    let same_upper = nat_eq a.upper b.upper in
    let last_two = (and_parts (rect_eq a.rect b.rect) (same_lower && same_upper) e).1 in
    let rect_is = same_rects a.rect b.rect (and_parts (rect_eq a.rect b.rect) (same_lower && same_upper) e).0 in
    let lower_test = (and_parts same_lower same_upper last_two).0 in
    let upper_test = (and_parts same_lower same_upper last_two).1 in
    let lower_is : a.lower ≡ b.lower = grind (arith, nat_tests) in
    let upper_is : a.upper ≡ b.upper = grind (arith, nat_tests) in
    let make : Rect → ℕ → ℕ → ContactPiece = λ r i k. record { rect = r; lower = i; upper = k } in
    ap (λ r. make r a.lower a.upper) rect_is ∙ ap (λ i. make b.rect i a.upper) lower_is ∙ ap (make b.rect b.lower) upper_is

-- the order and repetitions do not matter
pub same_pieces : (contacts sorted once : List ContactPiece) → IsPermutation contacts sorted → once ≡ dedup piece_eq sorted → (piece : ContactPiece) → Contains once piece ↔ Contains contacts piece
same_pieces contacts sorted once moved e piece = (
  λ c. Contains-permutation sorted contacts piece (IsPermutation-sym contacts sorted moved) (Contains-from_dedup piece_eq sorted piece (subst (λ ps. Contains ps piece) e c)),
  λ c. subst (λ ps. Contains ps piece) (sym e) (Contains-dedup piece_eq_equiv same_piece sorted piece (Contains-permutation contacts sorted piece moved c)),
)

pub meetings_once : (lower upper : List Labelled) (contacts once : List ContactPiece) → ((piece : ContactPiece) → Contains once piece ↔ Contains contacts piece) → AreMeetings lower upper contacts
    → AreMeetings lower upper once
meetings_once lower upper contacts once same are i k c = (
  λ h. (are i k c).0 (record { contact = h.contact; among = (same h.contact).0 h.among; lower_is = h.lower_is; upper_is = h.upper_is; has = h.has }),
  λ both. let h = (are i k c).1 both in record { contact = h.contact; among = (same h.contact).1 h.among; lower_is = h.lower_is; upper_is = h.upper_is; has = h.has },
)
