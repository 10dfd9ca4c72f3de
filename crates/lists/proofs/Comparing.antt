-- numbers that are equal or not
use Rattle.std.proofs.Common.{int_eq, inl, inr, ℕ, ℤ, ◌≡◌, ◌≢◌, ◌⊎◌}
use Rattle.lists.proofs.Words.{cases_Bool, eqb_tells, Decides-int_eq}

-- two numbers are one, or not
pub equal_or_not : (a b : ℕ) → (a ≡ b) ⊎ (a ≢ b)
equal_or_not a b = elim (eqb_tells a b) [ inl h ↦ inl h.1 | inr h ↦ inr h.1 ]

-- so are two numbers with sign
pub same_or_not : (x y : ℤ) → (x ≡ y) ⊎ (x ≡ y → ⊥)
same_or_not x y =
    elim (cases_Bool (int_eq x y)) [ inl e ↦ inl ((Decides-int_eq x y).0 e) | inr e ↦ inr (λ h. cc ((Decides-int_eq x y).1 h)) ]
