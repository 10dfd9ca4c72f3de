-- numbers that are one in 64 bits
use Rattle.std.proofs.Common.{ℕ, suc, List, [], ◌∷◌, ◌+◌, ◌-◌, ◌*◌, ◌%◌, ◌^◌, ◌<◌, ◌≡◌, ◌∙◌, refl, sym, ap, arith, Contains, sum_by}
use Rattle.std.proofs.Math.Nat.{add-mod-mod, add-mul-mod_self_left, mod-add-mod, mod-eq_of_lt, mod-mod}
use Rattle.std.proofs.lemmas.Nat.{mul-mod_first, mul-mod_second}
use Rattle.lists.proofs.Words.{sum_by-cons}
use Rattle.lists.proofs.Containing.{Contains-head, Contains-tail}
use Rattle.net_pairs.specs.inside.SameRests.{HaveOneRest}

-- ---- any modulus

mod_added : (w a b c d : ℕ) → a % w ≡ b % w → c % w ≡ d % w → (a + c) % w ≡ (b + d) % w
mod_added w a b c d e f =
    sym (mod-add-mod a w c) ∙ ap (λ n. (n + c) % w) e ∙ mod-add-mod b w c
    ∙ sym (add-mod-mod b c w) ∙ ap (λ n. (b + n) % w) f ∙ add-mod-mod b d w

mod_multiplied : (w a b c d : ℕ) → a % w ≡ b % w → c % w ≡ d % w → (a * c) % w ≡ (b * d) % w
mod_multiplied w a b c d e f =
    sym (mul-mod_first a c w) ∙ ap (λ n. (n * c) % w) e ∙ mul-mod_first b c w
    ∙ sym (mul-mod_second b c w) ∙ ap (λ n. (b * n) % w) f ∙ mul-mod_second b d w

-- a summand that was added so often that it comes to nothing
mod_cancelled : (v a c : ℕ) → (a + c + v * c) % suc v ≡ a % suc v
mod_cancelled v a c = ap (λ n. n % suc v) (whole v a c) ∙ add-mul-mod_self_left a (suc v) c where
  whole : (v a c : ℕ) → a + c + v * c ≡ a + suc v * c
  whole v a c = omega arith

-- ---- 64 bits

pub rest_equal : {m n : ℕ} → m ≡ n → HaveOneRest m n
rest_equal e = record { rest = ap (λ k. k % 2 ^ 64) e }

pub rest_refl : (n : ℕ) → HaveOneRest n n
rest_refl n = record { rest = refl }

pub rest_sym : {m n : ℕ} → HaveOneRest m n → HaveOneRest n m
rest_sym h = record { rest = sym h.rest }

pub rest_trans : {m n k : ℕ} → HaveOneRest m n → HaveOneRest n k → HaveOneRest m k
rest_trans h k = record { rest = h.rest ∙ k.rest }

pub rest_added : {a b c d : ℕ} → HaveOneRest a b → HaveOneRest c d → HaveOneRest (a + c) (b + d)
rest_added {a = a} {b = b} {c = c} {d = d} h k = record { rest = mod_added (2 ^ 64) a b c d h.rest k.rest }

pub rest_multiplied : {a b c d : ℕ} → HaveOneRest a b → HaveOneRest c d → HaveOneRest (a * c) (b * d)
rest_multiplied {a = a} {b = b} {c = c} {d = d} h k = record { rest = mod_multiplied (2 ^ 64) a b c d h.rest k.rest }

-- a number that wrapped
pub rest_wrapped : (n : ℕ) → HaveOneRest (n % 2 ^ 64) n
rest_wrapped n = record { rest = mod-mod n (2 ^ 64) }

pub rest_wrapped_sum : (m n : ℕ) → HaveOneRest ((m + n) % 2 ^ 64) (m + n)
rest_wrapped_sum m n = rest_wrapped (m + n)

pub rest_wrapped_product : (m n : ℕ) → HaveOneRest ((m * n) % 2 ^ 64) (m * n)
rest_wrapped_product m n = rest_wrapped (m * n)

-- two gains one after the other
pub rest_chained : (a m n : ℕ) {b c k : ℕ} → m + n ≡ k → HaveOneRest b (a + m) → HaveOneRest c (b + n) → HaveOneRest c (a + k)
rest_chained a m n both h g = rest_trans g (rest_trans (rest_added h (rest_refl n)) (rest_equal (omega arith)))

-- a gain that was still to come
pub rest_come : (a m n : ℕ) {b t k : ℕ} → m + n ≡ k → HaveOneRest (a + k) t → HaveOneRest b (a + m) → HaveOneRest (b + n) t
rest_come a m n both h g = rest_trans (rest_added g (rest_refl n)) (rest_trans (rest_equal (omega arith)) h)

-- numbers below 2 ^ 64 with one rest are equal
pub rest_small : {m n : ℕ} → m < 2 ^ 64 → n < 2 ^ 64 → HaveOneRest m n → m ≡ n
rest_small {m = m} {n = n} a b h = sym (mod-eq_of_lt a) ∙ h.rest ∙ mod-eq_of_lt b

-- a summand that both have may go
pub rest_cancelled : {a b c d : ℕ} → HaveOneRest (a + c) (b + d) → HaveOneRest c d → HaveOneRest a b
rest_cancelled {a = a} {b = b} {c = c} {d = d} h k =
    record {
      rest = sym (mod_cancelled (2 ^ 64 - 1) a c)
          ∙ mod_added (2 ^ 64) (a + c) (b + d) ((2 ^ 64 - 1) * c) ((2 ^ 64 - 1) * d) h.rest (mod_multiplied (2 ^ 64) (2 ^ 64 - 1) (2 ^ 64 - 1) c d refl k.rest)
          ∙ mod_cancelled (2 ^ 64 - 1) b d;
    }

-- ---- sums over a list

module _ {X : Type 0} where
  pub rest_sums : (f g : X → ℕ) (xs : List X) → ((x : X) → Contains xs x → HaveOneRest (f x) (g x)) → HaveOneRest (sum_by f xs) (sum_by g xs)
  rest_sums f g [] same = rest_refl 0
  rest_sums f g (x ∷ xs) same =
      rest_trans (rest_equal (sum_by-cons f x xs))
      (rest_trans (rest_added (same x (Contains-head x xs)) (rest_sums f g xs (λ y h. same y (Contains-tail x xs y h)))) (rest_equal (sym (sum_by-cons g x xs))))
