-- what a list of pairs gains, step by step
use Rattle.std.proofs.Common.{ℕ, ◌≡◌, sym, subst, List, [], ◌∷◌, ◌++◌, inl, inr, ◌⊎◌, Contains}
use Rattle.lists.proofs.Words.{Contains-append_left, Contains-push, Contains-push_cases}
use Rattle.touch_sweep.specs.inside.Matches.{Gains}

pub gains_nothing : {must may : ℕ × ℕ → Type 0} (pairs : List (ℕ × ℕ)) → ((p : ℕ × ℕ) → must p → ⊥) → Gains must may pairs pairs
gains_nothing pairs none = record { kept = λ p h. h; all = λ p h. absurd (none p h); none_else = λ p h. inl h }

pub gains_one : {must may : ℕ × ℕ → Type 0} (pairs : List (ℕ × ℕ)) (q : ℕ × ℕ) → ((p : ℕ × ℕ) → must p → p ≡ q) → may q → Gains must may pairs (pairs ++ q ∷ [])
gains_one {must = must} {may = may} pairs q only it = record {
  kept = λ p h. Contains-append_left pairs (q ∷ []) p h;
  all = λ p h. subst (Contains (pairs ++ q ∷ [])) (sym (only p h)) (Contains-push pairs q);
  none_else = λ p h. elim (Contains-push_cases pairs q p h) [ inl c ↦ inl c | inr e ↦ inr (subst may e it) ];
}

-- one step after the other
pub gains_both : {first second first_may second_may must may : ℕ × ℕ → Type 0} {old middle new : List (ℕ × ℕ)} → Gains first first_may old middle → Gains second second_may middle new
    → ((p : ℕ × ℕ) → must p → first p ⊎ second p) → ((p : ℕ × ℕ) → first_may p → may p) → ((p : ℕ × ℕ) → second_may p → may p) → Gains must may old new
gains_both g h one_of_them of_first of_second = record {
  kept = λ p k. h.kept p (g.kept p k);
  all = λ p k. elim (one_of_them p k) [ inl a ↦ h.kept p (g.all p a) | inr b ↦ h.all p b ];
  none_else = λ p k. elim (h.none_else p k) [
    | inl a ↦ elim (g.none_else p a) [ inl b ↦ inl b | inr b ↦ inr (of_first p b) ]
    | inr b ↦ inr (of_second p b)
  ];
}

-- fewer that it must have, and more that it may have
pub gains_less : {must may must' may' : ℕ × ℕ → Type 0} {old new : List (ℕ × ℕ)} → Gains must may old new → ((p : ℕ × ℕ) → must' p → must p) → ((p : ℕ × ℕ) → may p → may' p) → Gains must' may' old new
gains_less g fewer more = record {
  kept = g.kept;
  all = λ p k. g.all p (fewer p k);
  none_else = λ p k. elim (g.none_else p k) [ inl a ↦ inl a | inr b ↦ inr (more p b) ];
}
