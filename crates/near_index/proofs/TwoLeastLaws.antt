-- the least two of what relations of distances and labels relate
use Rattle.std.proofs.Common.{ℕ, ◌<◌, ◌≤◌, ◌≡◌, ◌≢◌, refl, sym, ap, ◌∙◌, subst, arith, inl, inr, ◌⊎◌, Option, Some, None, leb, true, ◌↔◌}
use Rattle.lists.proofs.Words.{cases_lt, le-leb}
use Rattle.std.proofs.lemmas.Bool.{leb-true}
use Rattle.near_index.specs.declared.nearest.Near.{Near}
use Rattle.near_index.specs.Nearest.{IsNoLater}
use Rattle.near_index.specs.inside.TwoLeast.{AreTwoLeast, IsFirstOf, IsLeast, IsLeastOf, Others}

-- ---- the order of distances and labels

pub no_later_itself : (near : Near) → IsNoLater near near.distance near.label
no_later_itself near = inr (refl, omega arith)

pub no_later_still : (one other : Near) (d l : ℕ) → IsNoLater one other.distance other.label → IsNoLater other d l → IsNoLater one d l
no_later_still one other d l (inl p) (inl q) = inl (omega arith)
no_later_still one other d l (inl p) (inr (e, q)) = inl (omega arith)
no_later_still one other d l (inr (e, p)) (inl q) = inl (omega arith)
no_later_still one other d l (inr (e, p)) (inr (f, q)) = inr (e ∙ f, omega arith)

pub no_nearer : (near : Near) (d l : ℕ) → IsNoLater near d l → near.distance ≤ d
no_nearer near d l (inl p) = omega arith
no_nearer near d l (inr (e, p)) = omega arith

pub turned : (one other : Near) → (IsNoLater one other.distance other.label → ⊥) → IsNoLater other one.distance one.label
turned one other later = elim (cases_lt other.distance one.distance) [
  | inl l ↦ inl l
  | inr k ↦ elim (cases_lt one.distance other.distance) [
    | inl l ↦ absurd (later (inl l))
    | inr m ↦ let e : one.distance ≡ other.distance = omega arith in
        elim (cases_lt other.label one.label) [ inl l ↦ inr (sym e, omega arith) | inr n ↦ absurd (later (inr (e, n))) ]
  ]
]

-- among the equally near labels decide
pub by_labels : (near : Near) (d l : ℕ) → d ≤ near.distance → near.distance ≤ d → (leb near.label l ≡ true) ↔ IsNoLater near d l
by_labels near d l low high = (λ t. inr (omega arith, leb-true near.label l t), λ later. le-leb near.label l (labels later)) where
  labels : IsNoLater near d l → near.label ≤ l
  labels (inl less) = absurd (omega arith)
  labels (inr (e, k)) = k

-- ---- the same things

module _ (R Q : ℕ → ℕ → Type 0) (there : (d l : ℕ) → R d l → Q d l) (back : (d l : ℕ) → Q d l → R d l) where
  pub least_same : (near : Near) → IsLeast R near → IsLeast Q near
  least_same near least = record { hit = there near.distance near.label least.hit; first = λ d l q. least.first d l (back d l q) }

  pub least_of_same : (near : Option Near) → IsLeastOf R near → IsLeastOf Q near
  least_of_same None none = λ d l q. none d l (back d l q)
  least_of_same (Some near) least = least_same near least

pub two_same : (R Q : ℕ → ℕ → Type 0) → ((d l : ℕ) → R d l → Q d l) → ((d l : ℕ) → Q d l → R d l) → (first second : Option Near) → AreTwoLeast R first second → AreTwoLeast Q first second
two_same R Q there back None second two = (λ d l q. two.0 d l (back d l q), two.1)
two_same R Q there back (Some first) second two = (
  least_same R Q there back first two.0,
  least_of_same (Others R first.label) (Others Q first.label) (λ d l o. (there d l o.0, o.1)) (λ d l o. (back d l o.0, o.1)) second two.1,
)

-- ---- one thing more

module _ (R Q : ℕ → ℕ → Type 0) (kept : (d l : ℕ) → R d l → Q d l) (near : Near) (new : Q near.distance near.label)
    (cases : (d l : ℕ) → Q d l → R d l ⊎ ((d ≡ near.distance) × (l ≡ near.label))) where
  at_new : (first : Near) (d l : ℕ) → IsNoLater first near.distance near.label → (d ≡ near.distance) × (l ≡ near.label) → IsNoLater first d l
  at_new first d l before is = rw (is.0, is.1) before

  pub least_alone : ((d l : ℕ) → R d l → ⊥) → IsLeast Q near
  least_alone none = record { hit = new; first = λ d l q. elim (cases d l q) [ inl r ↦ absurd (none d l r) | inr is ↦ at_new near d l (no_later_itself near) is ] }

  pub least_with : (old first : Near) → IsFirstOf old near first → IsLeast R old → IsLeast Q first
  least_with old first (inl (e, before)) least = subst (IsLeast Q) (sym e) (record {
    hit = kept old.distance old.label least.hit;
    first = λ d l q. elim (cases d l q) [ inl r ↦ least.first d l r | inr is ↦ at_new old d l before is ];
  })
  least_with old first (inr (e, before)) least = subst (IsLeast Q) (sym e) (record {
    hit = new;
    first = λ d l q. elim (cases d l q) [ inl r ↦ no_later_still near old d l before (least.first d l r) | inr is ↦ at_new near d l (no_later_itself near) is ];
  })

module _ (R Q : ℕ → ℕ → Type 0) (kept : (d l : ℕ) → R d l → Q d l) (near : Near) (new : Q near.distance near.label)
    (cases : (d l : ℕ) → Q d l → R d l ⊎ ((d ≡ near.distance) × (l ≡ near.label))) where
  -- it is the first
  pub with_first : (second : Option Near) → AreTwoLeast R None second → AreTwoLeast Q (Some near) None
  with_first second two = (
    least_alone R Q kept near new cases two.0,
    λ d l o. elim (cases d l o.0) [ inl r ↦ two.0 d l r | inr is ↦ o.1 is.1 ],
  )

  -- it has the label of the first
  pub with_same_label : (old first : Near) (second : Option Near) → near.label ≡ old.label → IsFirstOf old near first → AreTwoLeast R (Some old) second → AreTwoLeast Q (Some first) second
  with_same_label old first second same is two = (
    least_with R Q kept near new cases old first is two.0,
    least_of_same (Others R old.label) (Others Q first.label)
        (λ d l o. (kept d l o.0, λ e. o.1 (e ∙ label_is)))
        (λ d l o. elim (cases d l o.0) [ inl r ↦ (r, λ e. o.1 (e ∙ sym label_is)) | inr new_is ↦ absurd (o.1 (new_is.1 ∙ same ∙ sym label_is)) ])
        second two.1,
  ) where
    label_is : first.label ≡ old.label
    label_is = elim is [ inl h ↦ ap (λ (n : Near). n.label) h.0 | inr h ↦ ap (λ (n : Near). n.label) h.0 ∙ same ]

  module _ (old : Near) (differ : near.label ≢ old.label) where
    -- it has another label, and comes before the first
    pub with_new_first : (second : Option Near) → IsNoLater near old.distance old.label → AreTwoLeast R (Some old) second → AreTwoLeast Q (Some near) (Some old)
    with_new_first second before two = (
      least_with R Q kept near new cases old near (inr (refl, before)) two.0,
      record {
        hit = (kept old.distance old.label two.0.hit, λ e. differ (sym e));
        first = λ d l o. elim (cases d l o.0) [ inl r ↦ two.0.first d l r | inr is ↦ absurd (o.1 is.1) ];
      },
    )

    others_kept : (d l : ℕ) → Others R old.label d l → Others Q old.label d l
    others_kept d l o = (kept d l o.0, o.1)

    others_cases : (d l : ℕ) → Others Q old.label d l → Others R old.label d l ⊎ ((d ≡ near.distance) × (l ≡ near.label))
    others_cases d l o = elim (cases d l o.0) [ inl r ↦ inl (r, o.1) | inr is ↦ inr is ]

    -- or behind it, where there was no second
    pub with_second : IsNoLater old near.distance near.label → AreTwoLeast R (Some old) None → AreTwoLeast Q (Some old) (Some near)
    with_second behind two = (
      least_with R Q kept near new cases old old (inl (refl, behind)) two.0,
      least_alone (Others R old.label) (Others Q old.label) others_kept near (new, differ) others_cases two.1,
    )

    -- and where there was one
    pub with_other : (other second : Near) → IsNoLater old near.distance near.label → IsFirstOf other near second → AreTwoLeast R (Some old) (Some other) → AreTwoLeast Q (Some old) (Some second)
    with_other other second behind is two = (
      least_with R Q kept near new cases old old (inl (refl, behind)) two.0,
      least_with (Others R old.label) (Others Q old.label) others_kept near (new, differ) others_cases other second is two.1,
    )

-- ---- things that are passed over

module _ (R Q P : ℕ → ℕ → Type 0) (kept : (d l : ℕ) → R d l → Q d l) (cases : (d l : ℕ) → Q d l → R d l ⊎ P d l) where
  least_kept : (near : Near) → ((d l : ℕ) → P d l → IsNoLater near d l) → IsLeast R near → IsLeast Q near
  least_kept near later least = record {
    hit = kept near.distance near.label least.hit;
    first = λ d l q. elim (cases d l q) [ inl r ↦ least.first d l r | inr p ↦ later d l p ];
  }

  -- all have the label of the first, and none is nearer
  pub passed_with_label : (first : Near) (second : Option Near) → ((d l : ℕ) → P d l → first.distance ≤ d) → ((d l : ℕ) → P d l → l ≡ first.label) → AreTwoLeast R (Some first) second
      → AreTwoLeast Q (Some first) second
  passed_with_label first second far label_is two = (
    least_kept first later two.0,
    least_of_same (Others R first.label) (Others Q first.label) (λ d l o. (kept d l o.0, o.1))
        (λ d l o. elim (cases d l o.0) [ inl r ↦ (r, o.1) | inr p ↦ absurd (o.1 (label_is d l p)) ]) second two.1,
  ) where
    later : (d l : ℕ) → P d l → IsNoLater first d l
    later d l p = let k = far d l p in let e = label_is d l p in
        elim (cases_lt first.distance d) [ inl less ↦ inl less | inr more ↦ inr (omega arith, omega arith) ]

  -- none is as near as the second
  pub passed_beyond : (first second : Near) → ((d l : ℕ) → P d l → second.distance < d) → AreTwoLeast R (Some first) (Some second) → AreTwoLeast Q (Some first) (Some second)
  passed_beyond first second far two = (
    least_kept first (λ d l p. no_later_still first second d l before (inl (far d l p))) two.0,
    record {
      hit = (kept second.distance second.label two.1.hit.0, two.1.hit.1);
      first = λ d l o. elim (cases d l o.0) [ inl r ↦ two.1.first d l (r, o.1) | inr p ↦ inl (far d l p) ];
    },
  ) where
    before : IsNoLater first second.distance second.label
    before = two.0.first second.distance second.label two.1.hit.0
