-- pieces in leaves and bands: what they hold together, and the rectangles round them
use Rattle.std.proofs.Common.{ℕ, ◌+◌, ◌<◌, ◌≤◌, ◌≡◌, refl, sym, ap, ◌∙◌, subst, List, [], ◌∷◌, ◌++◌, length, take, take_all, drop, get_or, append_assoc, arith, Option, Some, None, eqb, not, false, inl, inr}
use Rattle.lists.proofs.Words.{flat_map, flat_map-append, append-nil, take-append-drop, All-weaker, IsPermutation, cases_Bool, eqb-true, false≢true}
use Rattle.std.specs.Option.{option_eq}
use Rattle.std.proofs.lemmas.List.Sorted.{All-permutation, IsPermutation-append_left, IsPermutation-append_right, IsPermutation-trans}
use Rattle.lists.proofs.Reading.{All-read, All-read_all, taken_more}
use Rattle.geo_core.specs.Plane.{IsJoin}
use Rattle.geo_core.specs.declared.plane.Rect.{Rect}
use Rattle.near_index.specs.inside.Gaining.{GainsNear}
use Rattle.near_index.specs.inside.Hulls.{IsHullOf, IsLabelOf, IsRound}
use Rattle.near_index.proofs.NearLaws.{gains_both}

-- ---- lists in parts

-- the items of all parts, in order
abbrev pub all_of : {T : Type 0} → List (List T) → List T
all_of parts = flat_map (λ items. items) parts

all_of-push : {T : Type 0} (parts : List (List T)) (part : List T) → all_of (parts ++ part ∷ []) ≡ all_of parts ++ part
all_of-push parts part = flat_map-append (λ items. items) parts (part ∷ []) ∙ ap (λ xs. all_of parts ++ xs) (append-nil part)

module _ {T : Type 0} (parts new : List (List T)) (part rest front behind pieces : List T) (n : ℕ) (first : front ≡ take n rest) (last : behind ≡ drop n rest) (more : new ≡ parts ++ part ∷ []) where
  whole : rest ≡ front ++ behind
  whole = sym (ap (λ xs. xs ++ behind) first ∙ ap (λ xs. take n rest ++ xs) last ∙ take-append-drop n rest)

  gathered : all_of new ++ behind ≡ all_of parts ++ (part ++ behind)
  gathered = ap (λ xs. all_of xs ++ behind) more ∙ ap (λ xs. xs ++ behind) (all_of-push parts part) ∙ append_assoc (all_of parts) part behind

  -- one part more, of the first items that are left
  pub same_more : part ≡ front → all_of parts ++ rest ≡ pieces → all_of new ++ behind ≡ pieces
  same_more is so_far = gathered ∙ ap (λ xs. all_of parts ++ (xs ++ behind)) is ∙ ap (λ xs. all_of parts ++ xs) (sym whole) ∙ so_far

  -- and one that has them in another order
  pub permuted_more : IsPermutation front part → IsPermutation pieces (all_of parts ++ rest) → IsPermutation pieces (all_of new ++ behind)
  permuted_more order so_far =
      let left = subst (λ xs. IsPermutation pieces (all_of parts ++ xs)) whole so_far in
      let turned = IsPermutation-append_right (all_of parts) (front ++ behind) (part ++ behind) (IsPermutation-append_left behind front part order) in
      subst (IsPermutation pieces) (sym gathered) (IsPermutation-trans pieces (all_of parts ++ (front ++ behind)) (all_of parts ++ (part ++ behind)) left turned)

-- no items are left
no_items : {T : Type 0} (rest : List T) → length rest ≡ 0 → rest ≡ []
no_items [] none = refl
no_items (x ∷ rest) none = absurd (omega arith)

pub same_at_end : {T : Type 0} (parts : List (List T)) (rest pieces : List T) → length rest ≡ 0 → all_of parts ++ rest ≡ pieces → all_of parts ≡ pieces
same_at_end parts rest pieces none so_far = sym (append-nil (all_of parts)) ∙ ap (λ xs. all_of parts ++ xs) (sym (no_items rest none)) ∙ so_far

pub permuted_at_end : {T : Type 0} (parts : List (List T)) (rest pieces : List T) → length rest ≡ 0 → IsPermutation pieces (all_of parts ++ rest) → IsPermutation pieces (all_of parts)
permuted_at_end parts rest pieces none so_far = subst (IsPermutation pieces) (ap (λ xs. all_of parts ++ xs) (no_items rest none) ∙ append-nil (all_of parts)) so_far

-- ---- labels

pub label_is : (label : Option ℕ) (its : ℕ) → not (option_eq eqb label (Some its)) ≡ false → label ≡ Some its
label_is None its e = absurd (false≢true (sym e))
label_is (Some own) its e = elim (cases_Bool (eqb own its)) [ inl same ↦ ap Some (eqb-true own its same) | inr other ↦ absurd (false≢true (sym e ∙ ap not other)) ]

-- ---- hulls

module _ {T : Type 0} (rect_of : T → Rect) where
  -- one piece more
  pub hull_more : (things : List T) (i : ℕ) (thing : T) (hull rect joined : Rect) → i < length things → thing ≡ get_or things i thing → rect ≡ rect_of thing → IsJoin hull rect joined
      → IsHullOf rect_of hull (take i things) → IsHullOf rect_of joined (take (i + 1) things)
  hull_more things i thing hull rect joined small is at join so_far = All-read (λ x. IsRound joined (rect_of x)) things i thing small is
      (All-weaker (λ x. IsRound hull (rect_of x)) (λ x. IsRound joined (rect_of x)) (λ x round c h. join.first c (round c h)) (take i things) so_far) (subst (IsRound joined) at join.second)

  pub hull_all : (things : List T) (i : ℕ) (hull : Rect) → length things ≤ i → IsHullOf rect_of hull (take i things) → IsHullOf rect_of hull things
  hull_all things i hull past so_far = All-read_all (λ x. IsRound hull (rect_of x)) things i past so_far

  -- the same pieces in another order
  pub hull_permuted : (things others : List T) (hull : Rect) → IsPermutation things others → IsHullOf rect_of hull things → IsHullOf rect_of hull others
  hull_permuted things others hull order round = All-permutation (λ x. IsRound hull (rect_of x)) things others order round

  pub labels_permuted : (label_of : T → Option ℕ) (label : Option ℕ) (things others : List T) → IsPermutation things others → IsLabelOf label_of label things → IsLabelOf label_of label others
  labels_permuted label_of None things others order all = tt
  labels_permuted label_of (Some its) things others order all = All-permutation (λ x. label_of x ≡ Some its) things others order all

  -- ---- what a list gains of one part after the other

  pub gains_part : (tile : Rect) (reach : ℕ) (parts : List (List T)) (i : ℕ) (part old mid new : List T) → i < length parts → part ≡ get_or parts i part
      → GainsNear rect_of tile reach (all_of (take i parts)) old mid → GainsNear rect_of tile reach part mid new → GainsNear rect_of tile reach (all_of (take (i + 1) parts)) old new
  gains_part tile reach parts i part old mid new small is so_far here =
      let e = ap all_of (taken_more parts i part small is) ∙ all_of-push (take i parts) part in
      subst (λ xs. GainsNear rect_of tile reach xs old new) (sym e) (gains_both rect_of tile reach (all_of (take i parts)) part old mid new so_far here)

  pub gains_parts : (tile : Rect) (reach : ℕ) (parts : List (List T)) (i : ℕ) (old new : List T) → length parts ≤ i → GainsNear rect_of tile reach (all_of (take i parts)) old new
      → GainsNear rect_of tile reach (all_of parts) old new
  gains_parts tile reach parts i old new past so_far = subst (λ xs. GainsNear rect_of tile reach (all_of xs) old new) (take_all i parts past) so_far
