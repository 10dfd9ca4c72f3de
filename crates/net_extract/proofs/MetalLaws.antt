-- islands of the first metals, and those of one metal more
use Rattle.std.proofs.Common.{ℕ, ◌+◌, ◌<◌, ◌≤◌, ◌≡◌, refl, sym, ap, ◌∙◌, subst, List, [], ◌∷◌, ◌++◌, length, get_or, arith, inl, inr, ◌⊎◌, ◌↔◌}
use Rattle.lists.proofs.Words.{leb_tells, get_or_append_left, get_or_push, get_or_past, length_push}
use Rattle.geo_core.specs.declared.plane.Cell.{Cell}
use Rattle.geo_core.specs.declared.plane.Half.{Half}
use Rattle.geo_core.specs.declared.plane.Labelled.{Labelled}
use Rattle.geo_core.specs.declared.plane.Rect.{Rect}
use Rattle.fault_model.specs.FaultNames.{IsOn, IsSameIsland}
use Rattle.geo_core.specs.Plane.{IsCoveredIn}
use Rattle.net_extract.specs.inside.LabelledCells.{HasLabelled}
use Rattle.net_extract.specs.inside.Numbering.{AreIslandsFrom, AreIslandsOf, islands_on}
use Rattle.lists.proofs.Comparing.{equal_or_not}
use Rattle.lists.proofs.Containing.{Contains-none}

-- a list of lists has what it had, and one list more at its end
module _ {X : Type 0} (old : List (List X)) (new : List X) where
  pub at_old : (m : ℕ) → m < length old → get_or (old ++ new ∷ []) m [] ≡ get_or old m []
  at_old m small = get_or_append_left old (new ∷ []) [] m small

  pub at_new : (m : ℕ) → m ≡ length old → get_or (old ++ new ∷ []) m [] ≡ new
  at_new m e = get_or_push old new [] m (sym e)

  pub at_none : (m : ℕ) → length old < m → get_or (old ++ new ∷ []) m [] ≡ []
  at_none m past = get_or_past (old ++ new ∷ []) m [] (let e = length_push old new in omega arith)

abbrev pub IsBefore : ℕ → ℕ → Type 0
IsBefore m k = (m < k) ⊎ ((m ≡ k) ⊎ (k < m))

pub before_or_past : (m k : ℕ) → IsBefore m k
before_or_past m k = elim (equal_or_not m k) [
  | inl e ↦ inr (inl e)
  | inr apart ↦ elim (leb_tells m k) [ inl h ↦ inl (let le = h.1 in omega arith) | inr h ↦ inr (inr h.1) ]
]

none_labelled : (i : ℕ) (c : Cell) → HasLabelled [] i c → ⊥
none_labelled i c h = Contains-none h.among

pub no_metals : (lists : List (List Rect)) → AreIslandsOf lists 0 0 []
no_metals lists = record {
  one_each = refl;
  covered = λ metal c small. absurd (omega arith);
  joined = λ m n i k p q p_on. absurd (none_labelled i p_on.0 p_on.2);
  below = λ metal i c h. absurd (none_labelled i c h);
}

module _ (lists : List (List Rect)) (metals low high : ℕ) (old : List (List Labelled)) (new : List Labelled) (are : AreIslandsOf lists metals low old)
    (from : AreIslandsFrom (get_or lists metals []) low high new) (rising : low ≤ high) where
  abbrev more : List (List Labelled)
  more = old ++ new ∷ []

  -- a cell of a metal so far, or of the new one
  abbrev IsOld : ℕ → ℕ → Cell → Type 0
  IsOld m i c = (m < metals) × HasLabelled (islands_on old m) i c

  abbrev IsNew : ℕ → ℕ → Cell → Type 0
  IsNew m i c = (m ≡ metals) × HasLabelled new i c

  old_or_new : (m i : ℕ) (c : Cell) → HasLabelled (islands_on more m) i c → IsOld m i c ⊎ IsNew m i c
  old_or_new m i c h =
      let one_each = are.one_each in
      elim (before_or_past m metals) [
        | inl less ↦ inl (less, subst (λ xs. HasLabelled xs i c) (at_old old new m (omega arith)) h)
        | inr (inl e) ↦ inr (e, subst (λ xs. HasLabelled xs i c) (at_new old new m (omega arith)) h)
        | inr (inr past) ↦ absurd (none_labelled i c (subst (λ xs. HasLabelled xs i c) (at_none old new m (omega arith)) h))
      ]

  from_old : (m i : ℕ) (c : Cell) → m < metals → HasLabelled (islands_on old m) i c → HasLabelled (islands_on more m) i c
  from_old m i c less h = let one_each = are.one_each in subst (λ xs. HasLabelled xs i c) (sym (at_old old new m (omega arith))) h

  from_new : (m i : ℕ) (c : Cell) → m ≡ metals → HasLabelled new i c → HasLabelled (islands_on more m) i c
  from_new m i c e h = let one_each = are.one_each in subst (λ xs. HasLabelled xs i c) (sym (at_new old new m (omega arith))) h

  covered_more : (m : ℕ) (c : Cell) → m < metals + 1 → ((i : ℕ) × HasLabelled (islands_on more m) i c) ↔ IsCoveredIn lists m c
  covered_more m c small = elim (before_or_past m metals) [
    | inl less ↦ (
      λ h. elim (old_or_new m h.0 c h.1) [ inl o ↦ (are.covered m c less).0 (h.0, o.1) | inr n ↦ let e = n.0 in absurd (omega arith) ],
      λ v. let found = (are.covered m c less).1 v in (found.0, from_old m found.0 c less found.1),
    )
    | inr (inl e) ↦ (
      λ h. elim (old_or_new m h.0 c h.1) [ inl o ↦ let l = o.0 in absurd (omega arith) | inr n ↦ subst (λ k. IsCoveredIn lists k c) (sym e) ((from.covered c).0 (h.0, n.1)) ],
      λ v. let found = (from.covered c).1 (subst (λ k. IsCoveredIn lists k c) e v) in (found.0, from_new m found.0 c e found.1),
    )
    | inr (inr past) ↦ absurd (omega arith)
  ]

  -- islands with these numbers are one exactly where they are one of one metal
  abbrev Tells : ℕ → ℕ → ℕ → ℕ → Half → Half → Type 0
  Tells m n i k p q = (i ≡ k) ↔ ((m ≡ n) × IsSameIsland (IsCoveredIn lists m) p q)

  apart : (m n i k : ℕ) (p q : Half) → (i ≡ k → ⊥) → (m ≡ n → ⊥) → Tells m n i k p q
  apart m n i k p q other other_metal = (λ e. absurd (other e), λ s. absurd (other_metal s.0))

  both_new : (m n i k : ℕ) (p q : Half) → m ≡ metals → n ≡ metals → IsOn (HasLabelled new i) p → IsOn (HasLabelled new k) q → Tells m n i k p q
  both_new m n i k p q e f p_on q_on = (
    λ same. (e ∙ sym f, subst (λ x. IsSameIsland (IsCoveredIn lists x) p q) (sym e) ((from.joined i k p q p_on q_on).0 same)),
    λ s. (from.joined i k p q p_on q_on).1 (subst (λ x. IsSameIsland (IsCoveredIn lists x) p q) e s.1),
  )

  joined_more : (m n i k : ℕ) (p q : Half) → IsOn (HasLabelled (islands_on more m) i) p → IsOn (HasLabelled (islands_on more n) k) q → Tells m n i k p q
  joined_more m n i k p q p_on q_on =
      elim (old_or_new m i p_on.0 p_on.2) [
        | inl a ↦ elim (old_or_new n k q_on.0 q_on.2) [
          | inl b ↦ are.joined m n i k p q (p_on.0, p_on.1, a.1) (q_on.0, q_on.1, b.1)
          | inr b ↦
              let small = are.below m i p_on.0 a.1 in
              let large = (from.within k q_on.0 b.1).0 in
              let less = a.0 in
              let e = b.0 in
              apart m n i k p q (λ same. omega arith) (λ same. omega arith)
        ]
        | inr a ↦ elim (old_or_new n k q_on.0 q_on.2) [
          | inl b ↦
              let small = are.below n k q_on.0 b.1 in
              let large = (from.within i p_on.0 a.1).0 in
              let less = b.0 in
              let e = a.0 in
              apart m n i k p q (λ same. omega arith) (λ same. omega arith)
          | inr b ↦ both_new m n i k p q a.0 b.0 (p_on.0, p_on.1, a.1) (q_on.0, q_on.1, b.1)
        ]
      ]

  pub one_metal_more : AreIslandsOf lists (metals + 1) high more
  one_metal_more = record {
    one_each = length_push old new ∙ ap (λ n. n + 1) are.one_each;
    covered = covered_more;
    joined = joined_more;
    below = λ m i c h. elim (old_or_new m i c h) [
      | inl o ↦ let small = are.below m i c o.1 in omega arith
      | inr n ↦ (from.within i c n.1).1
    ];
  }
