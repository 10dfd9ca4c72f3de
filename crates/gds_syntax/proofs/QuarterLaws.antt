-- angles of whole quarters of a circle
use Rattle.std.proofs.Common.{◌≡◌, inl, inr, refl, ℕ, ℤ, pos, negsuc, ◌+ℤ◌, ◌*ℤ◌, ◌≤ℤ◌, ◌<◌, arith}
use Rattle.lists.proofs.Words.{ints}
use Rattle.gds_syntax.specs.inside.Quarters.{ComesTo}
use Rattle.lists.proofs.Comparing.{same_or_not}

-- the angle is n quarters and whole circles besides
quarters_with : (degrees circles : ℤ) (n : ℕ) → degrees ≡ pos 90 *ℤ (pos n +ℤ (pos 4 *ℤ circles)) → negsuc 3 ≤ℤ (pos n +ℤ (pos 4 *ℤ circles))
    → (pos n +ℤ (pos 4 *ℤ circles)) ≤ℤ pos 4 → n < 4 → ComesTo degrees n
quarters_with degrees circles n whole back front few =
    record { few = few; circles = circles; are_quarters = record { whole = whole; from_back = back; to_front = front } }

-- n quarters back from a whole circle, or n forward
pub comes_to : (degrees : ℤ) (n : ℕ) → n < 4 → ((degrees ≡ pos 90 *ℤ (pos n +ℤ negsuc 3) → ⊥) → degrees ≡ pos 90 *ℤ pos n) → ComesTo degrees n
comes_to degrees n few either =
    elim (same_or_not degrees (pos 90 *ℤ (pos n +ℤ negsuc 3))) [
      | inl back ↦ quarters_with degrees (negsuc 0) n (omega (arith, ints)) (omega (arith, ints)) (omega (arith, ints)) few
      | inr not ↦ let forward = either not in quarters_with degrees (pos 0) n (omega (arith, ints)) (omega (arith, ints)) (omega (arith, ints)) few
    ]

-- none, or a whole circle
pub comes_to_none : (degrees : ℤ) → ((degrees ≡ negsuc 359 → ⊥) → (degrees ≡ pos 0 → ⊥) → degrees ≡ pos 360) → ComesTo degrees 0
comes_to_none degrees either =
    elim (same_or_not degrees (pos 360)) [
      | inl whole ↦ quarters_with degrees (pos 1) 0 (omega (arith, ints)) (omega (arith, ints)) (omega (arith, ints)) (omega arith)
      | inr not ↦ comes_to degrees 0 (omega arith) (λ not_back. elim (same_or_not degrees (pos 0)) [ inl none ↦ none | inr some ↦ absurd (not (either not_back some)) ])
    ]

pub no_turn : ComesTo (pos 0) 0
no_turn = comes_to (pos 0) 0 (omega arith) (λ not_back. refl)
