-- the nearest two labels of pieces, as more and more of them are known
use Rattle.std.proofs.Common.{ℕ, IfSome, ◌<◌, ◌≤◌, ◌≡◌, ◌≢◌, refl, sym, ap, ◌∙◌, subst, arith, inl, inr, ◌⊎◌, Option, Some, None, List, [], ◌∷◌, ◌++◌, Contains, All, append_assoc, eqb, true, length, take, take_all, drop, get_or, ◌+◌}
use Rattle.lists.proofs.Words.{All-contains, Contains-append_left, Contains-append_right, Contains-append_cases, Contains-permutation, IsPermutation, IsPermutation-sym, append-nil, same_Some, eqb-true, false≢true, flat_map, flat_map-append, take-append-drop}
use Rattle.std.specs.Option.{option_eq}
use Rattle.lists.proofs.Reading.{flat_map_next, taken_more}
use Rattle.lists.proofs.Containing.{Contains-none, Contains-one, Contains-head}
use Rattle.geo_core.specs.Plane.{IsInLayout}
use Rattle.geo_core.specs.declared.plane.Cell.{Cell}
use Rattle.geo_core.specs.declared.plane.Labelled.{Labelled}
use Rattle.near_index.specs.declared.nearest.Near.{Near}
use Rattle.near_index.specs.declared.nearest.Nearest.{Nearest}
use Rattle.near_index.specs.Nearest.{IsDistance, IsLabelDistance, IsLayoutCell, IsNearest, IsNearestLabel, IsNearestTwo, IsNoLater, found_label}
use Rattle.near_index.specs.inside.Hulls.{IsLabelOf}
use Rattle.near_index.specs.inside.TwoLeast.{AddsNearest, AreBeyond, AreTwoLeast, IsAway, IsFirstOf, IsLeast, IsLeastOf, Others}
use Rattle.near_index.proofs.DistanceLaws.{greatest_distance, same_distance, some_distance}
use Rattle.near_index.proofs.TwoLeastLaws.{least_of_same, no_nearer, passed_beyond, passed_with_label, two_same, with_first, with_new_first, with_other, with_same_label, with_second}

-- ---- pieces of two lists

module _ (cell : Cell) where
  away_in : (xs ys : List Labelled) → ((piece : Labelled) → Contains xs piece → Contains ys piece) → (d l : ℕ) → IsAway xs cell d l → IsAway ys cell d l
  away_in xs ys inside d l a = record { piece = a.piece; among = inside a.piece a.among; labelled = a.labelled; away = a.away }

  away_front : (xs ys : List Labelled) (d l : ℕ) → IsAway xs cell d l → IsAway (xs ++ ys) cell d l
  away_front xs ys = away_in xs (xs ++ ys) (Contains-append_left xs ys)

  away_back : (xs ys : List Labelled) (d l : ℕ) → IsAway ys cell d l → IsAway (xs ++ ys) cell d l
  away_back xs ys = away_in ys (xs ++ ys) (Contains-append_right xs ys)

  away_cases : (xs ys : List Labelled) (d l : ℕ) → IsAway (xs ++ ys) cell d l → IsAway xs cell d l ⊎ IsAway ys cell d l
  away_cases xs ys d l a = elim (Contains-append_cases xs ys a.piece a.among) [
    | inl c ↦ inl (record { piece = a.piece; among = c; labelled = a.labelled; away = a.away })
    | inr c ↦ inr (record { piece = a.piece; among = c; labelled = a.labelled; away = a.away })
  ]

  -- ---- one list after the other

  pub adds_nothing : (nearest : Nearest) → AddsNearest cell [] nearest nearest
  adds_nothing nearest = record { adds = λ seen two. subst (λ xs. AreTwoLeast (IsAway xs cell) nearest.first nearest.second) (sym (append-nil seen)) two }

  pub adds_both : (xs ys : List Labelled) (old mid new : Nearest) → AddsNearest cell xs old mid → AddsNearest cell ys mid new → AddsNearest cell (xs ++ ys) old new
  adds_both xs ys old mid new first second = record {
    adds = λ seen two. subst (λ zs. AreTwoLeast (IsAway zs cell) new.first new.second) (append_assoc seen xs ys) (second.adds (seen ++ xs) (first.adds seen two));
  }

  -- in the other order
  pub adds_turned : (xs ys : List Labelled) (old new : Nearest) → AddsNearest cell (xs ++ ys) old new → AddsNearest cell (ys ++ xs) old new
  adds_turned xs ys old new both = record {
    adds = λ seen two. two_same (IsAway (seen ++ (xs ++ ys)) cell) (IsAway (seen ++ (ys ++ xs)) cell) (there xs ys seen) (there ys xs seen) new.first new.second (both.adds seen two);
  } where
    turned_in : (us vs : List Labelled) (piece : Labelled) → Contains (us ++ vs) piece → Contains (vs ++ us) piece
    turned_in us vs piece c = elim (Contains-append_cases us vs piece c) [ inl h ↦ Contains-append_right vs us piece h | inr h ↦ Contains-append_left vs us piece h ]

    there : (us vs seen : List Labelled) (d l : ℕ) → IsAway (seen ++ (us ++ vs)) cell d l → IsAway (seen ++ (vs ++ us)) cell d l
    there us vs seen = away_in (seen ++ (us ++ vs)) (seen ++ (vs ++ us))
        (λ piece c. elim (Contains-append_cases seen (us ++ vs) piece c) [
          | inl h ↦ Contains-append_left seen (vs ++ us) piece h
          | inr h ↦ Contains-append_right seen (vs ++ us) piece (turned_in us vs piece h)
        ])

  -- ---- one piece

  module _ (piece : Labelled) (near : Near) (labelled : piece.label ≡ near.label) (away : IsDistance cell piece.rect near.distance) (old : Nearest) where
    module _ (seen : List Labelled) where
      kept : (d l : ℕ) → IsAway seen cell d l → IsAway (seen ++ piece ∷ []) cell d l
      kept = away_front seen (piece ∷ [])

      new : IsAway (seen ++ piece ∷ []) cell near.distance near.label
      new = away_back seen (piece ∷ []) near.distance near.label (record { piece = piece; among = Contains-head piece []; labelled = labelled; away = away })

      this_alone : (d l : ℕ) → IsAway (piece ∷ []) cell d l → (d ≡ near.distance) × (l ≡ near.label)
      this_alone d l a =
          let same : piece ≡ a.piece = Contains-one piece a.piece a.among in (
            same_distance cell piece.rect d near.distance (subst (λ (p : Labelled). IsDistance cell p.rect d) (sym same) a.away) away,
            sym a.labelled ∙ ap (λ (p : Labelled). p.label) (sym same) ∙ labelled,
          )

      cases : (d l : ℕ) → IsAway (seen ++ piece ∷ []) cell d l → IsAway seen cell d l ⊎ ((d ≡ near.distance) × (l ≡ near.label))
      cases d l a = elim (away_cases seen (piece ∷ []) d l a) [ inl h ↦ inl h | inr h ↦ inr (this_alone d l h) ]

    pub adds_first : old.first ≡ None → AddsNearest cell (piece ∷ []) old (record { first = Some near; second = None })
    adds_first none = record {
      adds = λ seen two. with_first (IsAway seen cell) (IsAway (seen ++ piece ∷ []) cell) (kept seen) near (new seen) (cases seen) old.second
          (subst (λ first. AreTwoLeast (IsAway seen cell) first old.second) none two);
    }

    module _ (head : Near) (is_head : old.first ≡ Some head) where
      two_of : (seen : List Labelled) → AreTwoLeast (IsAway seen cell) old.first old.second → AreTwoLeast (IsAway seen cell) (Some head) old.second
      two_of seen two = subst (λ first. AreTwoLeast (IsAway seen cell) first old.second) is_head two

      pub adds_same_label : (first : Near) → near.label ≡ head.label → IsFirstOf head near first → AddsNearest cell (piece ∷ []) old (record { first = Some first; second = old.second })
      adds_same_label first same is = record {
        adds = λ seen two. with_same_label (IsAway seen cell) (IsAway (seen ++ piece ∷ []) cell) (kept seen) near (new seen) (cases seen) head first old.second same is (two_of seen two);
      }

      module _ (differ : near.label ≢ head.label) where
        pub adds_new_first : IsNoLater near head.distance head.label → AddsNearest cell (piece ∷ []) old (record { first = Some near; second = Some head })
        adds_new_first before = record {
          adds = λ seen two. with_new_first (IsAway seen cell) (IsAway (seen ++ piece ∷ []) cell) (kept seen) near (new seen) (cases seen) head differ old.second before (two_of seen two);
        }

        pub adds_second : IsNoLater head near.distance near.label → old.second ≡ None → AddsNearest cell (piece ∷ []) old (record { first = Some head; second = Some near })
        adds_second behind none = record {
          adds = λ seen two. with_second (IsAway seen cell) (IsAway (seen ++ piece ∷ []) cell) (kept seen) near (new seen) (cases seen) head differ behind
              (subst (AreTwoLeast (IsAway seen cell) (Some head)) none (two_of seen two));
        }

        pub adds_other : (other second : Near) → IsNoLater head near.distance near.label → old.second ≡ Some other → IsFirstOf other near second
            → AddsNearest cell (piece ∷ []) old (record { first = Some head; second = Some second })
        adds_other other second behind is_other is = record {
          adds = λ seen two. with_other (IsAway seen cell) (IsAway (seen ++ piece ∷ []) cell) (kept seen) near (new seen) (cases seen) head differ other second behind is
              (subst (AreTwoLeast (IsAway seen cell) (Some head)) is_other (two_of seen two));
        }

  -- ---- pieces that are passed over

  module _ (nearest : Nearest) (first : Near) (is_first : nearest.first ≡ Some first) (distance : ℕ) (pieces : List Labelled) (beyond : AreBeyond pieces cell distance) where
    far : (d l : ℕ) → IsAway pieces cell d l → distance ≤ d
    far d l a = beyond.each a.piece d a.among a.away

    pub settled_by_label : first.distance ≤ distance → All (λ (piece : Labelled). Some piece.label ≡ Some first.label) pieces → AddsNearest cell pieces nearest nearest
    settled_by_label no_less all = record {
      adds = λ seen two. subst (λ f. AreTwoLeast (IsAway (seen ++ pieces) cell) f nearest.second) (sym is_first)
          (passed_with_label (IsAway seen cell) (IsAway (seen ++ pieces) cell) (IsAway pieces cell) (away_front seen pieces) (away_cases seen pieces) first nearest.second
          (λ d l a. let k = far d l a in omega arith) labels (subst (λ f. AreTwoLeast (IsAway seen cell) f nearest.second) is_first two));
    } where
      labels : (d l : ℕ) → IsAway pieces cell d l → l ≡ first.label
      labels d l a = sym a.labelled ∙ same_Some a.piece.label first.label (All-contains (λ (piece : Labelled). Some piece.label ≡ Some first.label) pieces a.piece all a.among)

    pub settled_by_second : (second : Near) → nearest.second ≡ Some second → second.distance < distance → AddsNearest cell pieces nearest nearest
    settled_by_second second is_second less = record {
      adds = λ seen two. subst (λ f. AreTwoLeast (IsAway (seen ++ pieces) cell) f nearest.second) (sym is_first)
          (subst (AreTwoLeast (IsAway (seen ++ pieces) cell) (Some first)) (sym is_second)
          (passed_beyond (IsAway seen cell) (IsAway (seen ++ pieces) cell) (IsAway pieces cell) (away_front seen pieces) (away_cases seen pieces) first second
          (λ d l a. let k = far d l a in omega arith)
          (subst (AreTwoLeast (IsAway seen cell) (Some first)) is_second (subst (λ f. AreTwoLeast (IsAway seen cell) f nearest.second) is_first two))));
    }

-- a label that is the first's
pub all_with : (label : Option ℕ) (own : ℕ) (pieces : List Labelled) → option_eq eqb label (Some own) ≡ true → IsLabelOf (λ (piece : Labelled). Some piece.label) label pieces
    → All (λ (piece : Labelled). Some piece.label ≡ Some own) pieces
all_with None own pieces e all = absurd (false≢true e)
all_with (Some its) own pieces e all = subst (λ l. All (λ (piece : Labelled). Some piece.label ≡ Some l) pieces) (eqb-true its own e) all

-- ---- parts

module _ {P : Type 0} (pieces_of : P → List Labelled) (cell : Cell) where
  -- one part after the other
  pub adds_part : (parts : List P) (i : ℕ) (part : P) (old mid new : Nearest) → i < length parts → part ≡ get_or parts i part
      → AddsNearest cell (flat_map pieces_of (take i parts)) old mid → AddsNearest cell (pieces_of part) mid new → AddsNearest cell (flat_map pieces_of (take (i + 1) parts)) old new
  adds_part parts i part old mid new small at so_far here =
      let before = flat_map pieces_of (take i parts) in
      subst (λ xs. AddsNearest cell xs old new) (flat_map_next pieces_of parts i part before (before ++ pieces_of part) small at refl refl)
      (adds_both cell before (pieces_of part) old mid new so_far here)

  pub adds_parts : (parts : List P) (i : ℕ) (old new : Nearest) → length parts ≤ i → AddsNearest cell (flat_map pieces_of (take i parts)) old new → AddsNearest cell (flat_map pieces_of parts) old new
  adds_parts parts i old new past so_far = subst (λ xs. AddsNearest cell (flat_map pieces_of xs) old new) (take_all i parts past) so_far

  -- those from some place on, and then those before it
  pub adds_halves : (before from parts : List P) (k : ℕ) (old mid new : Nearest) → before ≡ take k parts → from ≡ drop k parts
      → AddsNearest cell (flat_map pieces_of from) old mid → AddsNearest cell (flat_map pieces_of before) mid new → AddsNearest cell (flat_map pieces_of parts) old new
  adds_halves before from parts k old mid new is_before is_from first second =
      let whole : before ++ from ≡ parts = ap (λ xs. xs ++ from) is_before ∙ ap (λ xs. take k parts ++ xs) is_from ∙ take-append-drop k parts in
      subst (λ xs. AddsNearest cell xs old new) (sym (flat_map-append pieces_of before from) ∙ ap (flat_map pieces_of) whole)
      (adds_turned cell (flat_map pieces_of from) (flat_map pieces_of before) old new
      (adds_both cell (flat_map pieces_of from) (flat_map pieces_of before) old mid new first second))

-- and piece by piece
pub adds_piece : (cell : Cell) (pieces : List Labelled) (i : ℕ) (piece : Labelled) (old mid new : Nearest) → i < length pieces → piece ≡ get_or pieces i piece
    → AddsNearest cell (take i pieces) old mid → AddsNearest cell (piece ∷ []) mid new → AddsNearest cell (take (i + 1) pieces) old new
adds_piece cell pieces i piece old mid new small at so_far here =
    subst (λ xs. AddsNearest cell xs old new) (sym (taken_more pieces i piece small at)) (adds_both cell (take i pieces) (piece ∷ []) old mid new so_far here)

pub adds_pieces : (cell : Cell) (pieces : List Labelled) (i : ℕ) (old new : Nearest) → length pieces ≤ i → AddsNearest cell (take i pieces) old new → AddsNearest cell pieces old new
adds_pieces cell pieces i old new past so_far = subst (λ xs. AddsNearest cell xs old new) (take_all i pieces past) so_far

-- ---- all pieces

module _ (pieces : List Labelled) (cell : Cell) where
  -- what is least among those that are not left out
  module _ (except : Option ℕ) where
    abbrev Allowed : ℕ → ℕ → Type 0
    Allowed d l = IsAway pieces cell d l × (except ≢ Some l)

    nearest_label : (near : Near) → IsLeast Allowed near → IsNearestLabel pieces cell except near
    nearest_label near least = record {
      other = least.hit.1;
      distance = record {
        piece = least.hit.0.piece;
        among = least.hit.0.among;
        labelled = least.hit.0.labelled;
        reached = least.hit.0.away;
        least = λ other further among labelled away. no_nearer near further near.label
            (least.first further near.label (record { piece = other; among = among; labelled = labelled; away = away }, least.hit.1));
      };
      first = λ label distance other is. least.first distance label (record { piece = is.piece; among = is.among; labelled = is.labelled; away = is.reached }, other);
    }

    nearest_of : (near : Option Near) → IsLeastOf Allowed near → IsNearest pieces cell except near
    nearest_of None none = record {
      none = λ piece among other.
          let far = some_distance cell piece.rect in
          none far.0 piece.label (record { piece = piece; among = among; labelled = refl; away = far.1 }, other);
    }
    nearest_of (Some near) least = nearest_label near least

  none_is_not : (l : ℕ) → None ≢ Some l
  none_is_not l e = cc

  pub two_nearest : (first second : Option Near) → AreTwoLeast (IsAway pieces cell) first second → IsNearest pieces cell None first × IsNearest pieces cell (found_label first) second
  two_nearest None second two =
      let none = nearest_of None None (λ d l a. two.0 d l a.0) in
      (none, subst (IsNearest pieces cell None) (sym two.1) none)
  two_nearest (Some first) second two = (
    nearest_of None (Some first) (least_of_same (IsAway pieces cell) (Allowed None) (λ d l a. (a, none_is_not l)) (λ d l a. a.0) (Some first) two.0),
    nearest_of (Some first.label) second (least_of_same (Others (IsAway pieces cell) first.label) (Allowed (Some first.label))
        (λ d l o. (o.0, λ e. o.1 (sym (same_Some first.label l e)))) (λ d l a. (a.0, λ e. a.1 (ap Some (sym e)))) second two.1),
  )

  pub nearest_two : (nearest : Nearest) → AreTwoLeast (IsAway pieces cell) nearest.first nearest.second → IsNearestTwo pieces cell nearest
  nearest_two nearest two = let both = two_nearest nearest.first nearest.second two in record { first = both.0; second = both.1 }

  -- all pieces are added to none
  pub nearest_from_none : (start nearest : Nearest) → start.first ≡ None → start.second ≡ None → AddsNearest cell pieces start nearest → IsNearestTwo pieces cell nearest
  nearest_from_none start nearest no_first no_second all = nearest_two nearest (all.adds []
      (subst (λ f. AreTwoLeast (IsAway [] cell) f start.second) (sym no_first) (λ d l a. Contains-none a.among, no_second)))

-- ---- one answer alone

same_near : (one other : Near) → IsNoLater one other.distance other.label → IsNoLater other one.distance one.label → one ≡ other
same_near one other (inl p) (inl q) = absurd (omega arith)
same_near one other (inl p) (inr q) = let e = q.0 in absurd (omega arith)
same_near one other (inr p) (inl q) = let e = p.0 in absurd (omega arith)
same_near one other (inr p) (inr q) =
    let at : ℕ → ℕ → Near = λ d l. record { distance = d; label = l } in
    let k = p.1 in let m = q.1 in let label : one.label ≡ other.label = omega arith in
    ap (λ d. at d one.label) p.0 ∙ ap (at other.distance) label

module _ (pieces : List Labelled) (cell : Cell) where
  same_nearest : (except : Option ℕ) (one other : Option Near) → IsNearest pieces cell except one → IsNearest pieces cell except other → one ≡ other
  same_nearest except None None p q = refl
  same_nearest except None (Some near) p q = absurd (p.none q.distance.piece q.distance.among (subst (λ l. except ≢ Some l) (sym q.distance.labelled) q.other))
  same_nearest except (Some near) None p q = absurd (q.none p.distance.piece p.distance.among (subst (λ l. except ≢ Some l) (sym p.distance.labelled) p.other))
  same_nearest except (Some near) (Some other) p q = ap Some (same_near near other (p.first other.label other.distance q.other q.distance) (q.first near.label near.distance p.other p.distance))

  pub same_two : (one other : Nearest) → IsNearestTwo pieces cell one → IsNearestTwo pieces cell other → one ≡ other
  same_two one other p q =
      let at : Option Near → Option Near → Nearest = λ f s. record { first = f; second = s } in
      let first : one.first ≡ other.first = same_nearest None one.first other.first p.first q.first in
      let second : one.second ≡ other.second = same_nearest (found_label other.first) one.second other.second (subst (λ f. IsNearest pieces cell (found_label f) one.second) first p.second) q.second in
      ap (λ f. at f one.second) first ∙ ap (at other.first) second

-- ---- in any order

module _ (pieces others : List Labelled) (cell : Cell) (there : (piece : Labelled) → Contains pieces piece → Contains others piece) (back : (piece : Labelled) → Contains others piece → Contains pieces piece) where
  label_distance_in : (label distance : ℕ) → IsLabelDistance others label cell distance → IsLabelDistance pieces label cell distance
  label_distance_in label distance is = record {
    piece = is.piece;
    among = back is.piece is.among;
    labelled = is.labelled;
    reached = is.reached;
    least = λ other further among. is.least other further (there other among);
  }

  label_distance_out : (label distance : ℕ) → IsLabelDistance pieces label cell distance → IsLabelDistance others label cell distance
  label_distance_out label distance is = record {
    piece = is.piece;
    among = there is.piece is.among;
    labelled = is.labelled;
    reached = is.reached;
    least = λ other further among. is.least other further (back other among);
  }

  nearest_in : (except : Option ℕ) (near : Option Near) → IsNearest others cell except near → IsNearest pieces cell except near
  nearest_in except None is = record { none = λ piece among. is.none piece (there piece among) }
  nearest_in except (Some near) is = record {
    other = is.other;
    distance = label_distance_in near.label near.distance is.distance;
    first = λ label distance other at. is.first label distance other (label_distance_out label distance at);
  }

  two_in : (nearest : Nearest) → IsNearestTwo others cell nearest → IsNearestTwo pieces cell nearest
  two_in nearest two = record { first = nearest_in None nearest.first two.first; second = nearest_in (found_label nearest.first) nearest.second two.second }

pub in_any_order : (pieces others : List Labelled) (cell : Cell) (nearest : Nearest) → IsPermutation pieces others → IsNearestTwo others cell nearest → IsNearestTwo pieces cell nearest
in_any_order pieces others cell nearest order = two_in pieces others cell (λ piece. Contains-permutation pieces others piece order)
    (λ piece. Contains-permutation others pieces piece (IsPermutation-sym pieces others order)) nearest

-- ---- how far

module _ (pieces : List Labelled) (cell : Cell) (in_layout : IsLayoutCell cell) (inside : All (λ (piece : Labelled). IsInLayout piece.rect) pieces) where
  nearest_within : (except : Option ℕ) (near : Option Near) → IsNearest pieces cell except near → IfSome near (λ n. n.distance ≤ 1999999999)
  nearest_within except None is = tt
  nearest_within except (Some near) is = let at = is.distance in
      greatest_distance cell at.piece.rect near.distance in_layout (All-contains (λ (piece : Labelled). IsInLayout piece.rect) pieces at.piece inside at.among) at.reached

  pub two_within : (nearest : Nearest) → IsNearestTwo pieces cell nearest → IfSome nearest.first (λ n. n.distance ≤ 1999999999) × IfSome nearest.second (λ n. n.distance ≤ 1999999999)
  two_within nearest two = (nearest_within None nearest.first two.first, nearest_within (found_label nearest.first) nearest.second two.second)
