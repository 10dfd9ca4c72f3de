-- powers of two, and the numbers of nodes
use Rattle.std.proofs.Common.{pow-suc, ℕ, suc, ◌+◌, ◌-◌, ◌*◌, ◌/◌, ◌^◌, ◌<◌, ◌≤◌, ◌≡◌, sym, ap, ◌∙◌, arith, inl, inr}
use Rattle.lists.proofs.Words.{pow_pos}
use Rattle.std.proofs.lemmas.Bool.{cases_order}
use Rattle.std.proofs.lemmas.Nat.{pow_below, div-mul-add, shr_split, mod_below, shr_below}
use Rattle.std.proofs.Math.Nat.{pow-le-pow_right}

pub double : (n : ℕ) → 2 ^ suc n ≡ 2 * 2 ^ n
double n = let e = pow-suc 2 n in omega (arith, e)

pub pow_grows : (a b : ℕ) → a < b → 2 ^ suc a ≤ 2 ^ b
pow_grows a b less = search (arith, pow-le-pow_right)

-- the greater power has the greater exponent
pub power_lt : (a b : ℕ) → 2 ^ a < 2 ^ b → a < b
power_lt a b less = elim (cases_order a b) [
  | inl same ↦ let e = ap (λ n. 2 ^ n) same in absurd (omega arith)
  | inr (inl h) ↦ h
  | inr (inr more) ↦ let h = pow_below b a more in absurd (omega arith)
]

pub power_le : (a b : ℕ) → 2 ^ a ≤ 2 ^ b → a ≤ b
power_le a b less = elim (cases_order a b) [
  | inl same ↦ omega arith
  | inr (inl h) ↦ omega arith
  | inr (inr more) ↦ let h = pow_below b a more in absurd (omega arith)
]

-- a number of two parts has one power of two that is at most it
below_power : (a b p q : ℕ) → p < 2 ^ a → a < b → 2 ^ a + p < 2 ^ b + q
below_power a b p q small less = let grown = pow_grows a b less in let e = double a in omega arith

pub same_power : (a b p q : ℕ) → p < 2 ^ a → q < 2 ^ b → 2 ^ a + p ≡ 2 ^ b + q → a ≡ b
same_power a b p q small also e = elim (cases_order a b) [
  | inl same ↦ same
  | inr (inl less) ↦ let h = below_power a b p q small less in absurd (omega arith)
  | inr (inr more) ↦ let h = below_power b a q p also more in absurd (omega arith)
]

-- the quotient of a number in a block, and the block of a number
pub quotient_in : (place size x : ℕ) → place * size ≤ x → x < place * size + size → x / size ≡ place
quotient_in place size x low high =
    let e : place * size + (x - place * size) ≡ x = omega arith in
    ap (λ y. y / size) (sym e) ∙ div-mul-add place size (x - place * size) (omega arith)

pub block_of : (k x : ℕ) → (x / 2 ^ k * 2 ^ k ≤ x) × (x < x / 2 ^ k * 2 ^ k + 2 ^ k)
block_of k x = let e = shr_split x k in let m = mod_below x (2 ^ k) (pow_pos k) in (omega arith, omega arith)

-- a column of a tree has a place at each level
pub place_among : (height level column : ℕ) → level ≤ height → column < 2 ^ height → column / 2 ^ level < 2 ^ (height - level)
place_among height level column h small = let e : height - level + level ≡ height = omega arith in shr_below column (height - level) level (rw e small)
