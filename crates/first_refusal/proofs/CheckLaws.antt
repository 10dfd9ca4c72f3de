-- checks in their order
use Rattle.std.proofs.Common.{◌≡◌, ◌⊎◌, inl, inr, refl, sym, ap, subst, ◌∙◌, List, [], ◌∷◌, ◌++◌}
use Rattle.std.specs.Prelude.{All}
use Rattle.std.proofs.lemmas.List.Elements.{All-nil, All-cons, All-head, All-tail}
use Rattle.first_refusal.specs.Outcomes.{value, refused}
use Rattle.first_refusal.specs.Checks.{IsFirstFailing, IsRefusalOfFirst, Checks, all_hold, one_fails}
use Rattle.first_refusal.specs.Laws.{IsUnique, CannotLack}

module _ {N : Type 0} (Holds : N → Type 0) where
  -- where the first check fails it is the first that fails, and else the first of the others is
  pub fails_at_once : (check : N) (checks : List N) → (Holds check → ⊥) → IsFirstFailing Holds (check ∷ checks) check
  fails_at_once check checks fails = record { before = []; after = checks; parts = refl; all_before = All-nil Holds; fails = fails }

  pub fails_later : (first : N) (checks : List N) (check : N) → Holds first → IsFirstFailing Holds checks check → IsFirstFailing Holds (first ∷ checks) check
  fails_later first checks check h f = record {
    before = first ∷ f.before;
    after = f.after;
    parts = ap (λ xs. first ∷ xs) f.parts;
    all_before = All-cons Holds first f.before h f.all_before;
    fails = f.fails;
  }

  one_in : (before : List N) (check : N) (after : List N) → All Holds (before ++ check ∷ after) → Holds check
  one_in [] check after all = All-head Holds check after all
  one_in (b ∷ before) check after all = one_in before check after (All-tail Holds b (before ++ check ∷ after) all)

  pub none_fails : (checks : List N) → All Holds checks → (check : N) → IsFirstFailing Holds checks check → ⊥
  none_fails checks all check f = f.fails (one_in f.before check f.after (subst (All Holds) f.parts all))

  -- a list is parted at a check that fails behind checks that hold in one way
  parted_alike : (before before' : List N) (one other : N) (after after' : List N) → before ++ one ∷ after ≡ before' ++ other ∷ after' → All Holds before → All Holds before' → (Holds one → ⊥)
      → (Holds other → ⊥) → one ≡ other
  parted_alike [] [] one other after after' e p q fails also = cc e
  parted_alike [] (b ∷ before') one other after after' e p q fails also =
      let same : b ≡ one = cc e in absurd (fails (subst Holds same (All-head Holds b before' q)))
  parted_alike (b ∷ before) [] one other after after' e p q fails also =
      let same : b ≡ other = cc e in absurd (also (subst Holds same (All-head Holds b before p)))
  parted_alike (b ∷ before) (c ∷ before') one other after after' e p q fails also =
      parted_alike before before' one other after after' (cc e) (All-tail Holds b before p) (All-tail Holds c before' q) fails also

  pub first_failures_agree : (checks : List N) → IsUnique (IsFirstFailing Holds checks)
  first_failures_agree checks one other f g = parted_alike f.before g.before one other f.after g.after (sym f.parts ∙ g.parts) f.all_before g.all_before f.fails g.fails

  -- it cannot be that neither all hold nor one is the first that fails
  pub cannot_lack_both : (checks : List N) → (All Holds checks → ⊥) → ((check : N) → IsFirstFailing Holds checks check → ⊥) → ⊥
  cannot_lack_both [] not_all none = not_all (All-nil Holds)
  cannot_lack_both (c ∷ checks) not_all none =
      none c (fails_at_once c checks (λ h. cannot_lack_both checks (λ rest. not_all (All-cons Holds c checks h rest)) (λ d f. none d (fails_later c checks d h f))))

  -- where each check holds or not, all of a list hold, or one is the first that fails
  pub all_hold_or_one_fails : ((check : N) → Holds check ⊎ (Holds check → ⊥)) → (checks : List N) → All Holds checks ⊎ ((check : N) × IsFirstFailing Holds checks check)
  all_hold_or_one_fails each [] = inl (All-nil Holds)
  all_hold_or_one_fails each (c ∷ checks) =
      elim (each c) [
        | inr fails ↦ inr (c, fails_at_once c checks fails)
        | inl h ↦ elim (all_hold_or_one_fails each checks) [ inl all ↦ inl (All-cons Holds c checks h all) | inr (d, f) ↦ inr (d, fails_later c checks d h f) ]
      ]

module _ {N R : Type 0} (Holds : N → Type 0) (checks : List N) (refusal_of : N → R) where
  pub first_refusals_agree : IsUnique (IsRefusalOfFirst Holds checks refusal_of)
  first_refusals_agree one other f g = f.is_its_refusal ∙ ap refusal_of (first_failures_agree Holds checks f.check g.check f.is_first g.is_first) ∙ sym g.is_its_refusal

module _ {N V R : Type 0} (Holds : N → Type 0) (checks : List N) (refusal_of : N → R) (Is : V → Type 0) where
  pub checks_agree : IsUnique Is → IsUnique (Checks Holds checks refusal_of Is)
  checks_agree alone (value v) (value w) (all_hold p a) (all_hold q b) = ap value (alone v w a b)
  checks_agree alone (value v) (refused s) (all_hold p a) (one_fails q) = absurd (none_fails Holds checks p q.check q.is_first)
  checks_agree alone (refused r) (value w) (one_fails p) (all_hold q b) = absurd (none_fails Holds checks q p.check p.is_first)
  checks_agree alone (refused r) (refused s) (one_fails p) (one_fails q) = ap refused (first_refusals_agree Holds checks refusal_of r s p q)

  pub checks_cannot_lack : (All Holds checks → CannotLack Is) → CannotLack (Checks Holds checks refusal_of Is)
  checks_cannot_lack some none =
      cannot_lack_both Holds checks (λ all. some all (λ v is. none (value v) (all_hold all is)))
      (λ c f. none (refused (refusal_of c)) (one_fails (record { check = c; is_first = f; is_its_refusal = refl })))
