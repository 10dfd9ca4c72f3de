-- turns one after the other
use Rattle.std.proofs.Common.{ℕ, zero, suc, ◌+◌, ◌*◌, ◌-◌, ◌/◌, ◌%◌, ◌<◌, ◌≡◌, refl, sym, ap, ◌∙◌, arith, Bool, true, false, not, ℤ, pos, negsuc, neg_ℤ, if◌then◌else◌}
use Rattle.geo_core.specs.Plane.{mirror_image, quarter_turn, quarter_turns}
use Rattle.geo_core.specs.declared.plane.Point.{Point}

pub neg-neg : (z : ℤ) → neg_ℤ (neg_ℤ z) ≡ z
neg-neg (pos zero) = refl
neg-neg (pos (suc n)) = refl
neg-neg (negsuc n) = refl

abbrev pub at : ℤ → ℤ → Point
at x y = record { x = x; y = y }

pub same_at : (a b c d : ℤ) → a ≡ c → b ≡ d → at a b ≡ at c d
same_at a b c d e f = ap (λ x. at x b) e ∙ ap (at c) f

mirror_image-mirror_image : (p : Point) → mirror_image (mirror_image p) ≡ p
mirror_image-mirror_image p = ap (at p.x) (neg-neg p.y)

four : (p : Point) → quarter_turns 4 p ≡ p
four p = same_at (neg_ℤ (neg_ℤ p.x)) (neg_ℤ (neg_ℤ p.y)) p.x p.y (neg-neg p.x) (neg-neg p.y)

quarter_turns-+ : (m n : ℕ) (p : Point) → quarter_turns (m + n) p ≡ quarter_turns m (quarter_turns n p)
quarter_turns-+ zero n p = let e : 0 + n ≡ n = omega arith in ap (λ k. quarter_turns k p) e
quarter_turns-+ (suc m) n p = let e : suc m + n ≡ suc (m + n) = omega arith in ap (λ k. quarter_turns k p) e ∙ ap quarter_turn (quarter_turns-+ m n p)

rounds : (k n : ℕ) (p : Point) → quarter_turns (k * 4 + n) p ≡ quarter_turns n p
rounds zero n p = let e : zero * 4 + n ≡ n = omega arith in ap (λ k. quarter_turns k p) e
rounds (suc k) n p =
    let e : suc k * 4 + n ≡ 4 + (k * 4 + n) = omega arith in
    ap (λ k. quarter_turns k p) e ∙ quarter_turns-+ 4 (k * 4 + n) p ∙ four (quarter_turns (k * 4 + n) p) ∙ rounds k n p

-- whole rounds change nothing
pub quarter_turns-% : (n : ℕ) (p : Point) → quarter_turns (n % 4) p ≡ quarter_turns n p
quarter_turns-% n p = let e : n ≡ (n / 4) * 4 + n % 4 = omega arith in sym (ap (λ k. quarter_turns k p) e ∙ rounds (n / 4) (n % 4) p)

mirror_image-quarter_turn : (p : Point) → quarter_turn (mirror_image (quarter_turn p)) ≡ mirror_image p
mirror_image-quarter_turn p = same_at (neg_ℤ (neg_ℤ p.x)) (neg_ℤ p.y) p.x (neg_ℤ p.y) (neg-neg p.x) refl

-- a mirror turns the sense of a turn
back : (n : ℕ) (p : Point) → quarter_turns n (mirror_image (quarter_turns n p)) ≡ mirror_image p
back zero p = refl
back (suc n) p =
    let e : suc n ≡ n + 1 = omega arith in
    ap (λ k. quarter_turns k (mirror_image (quarter_turn (quarter_turns n p)))) e ∙ quarter_turns-+ n 1 (mirror_image (quarter_turn (quarter_turns n p)))
    ∙ ap (quarter_turns n) (mirror_image-quarter_turn (quarter_turns n p)) ∙ back n p

mirror_image-quarter_turns : (n : ℕ) (p : Point) → n < 4 → mirror_image (quarter_turns n p) ≡ quarter_turns (4 - n) (mirror_image p)
mirror_image-quarter_turns n p h =
    let e : 4 - n + n ≡ 4 = omega arith in
    sym (ap (quarter_turns (4 - n)) (sym (back n p)) ∙ sym (quarter_turns-+ (4 - n) n (mirror_image (quarter_turns n p))) ∙ ap (λ k. quarter_turns k (mirror_image (quarter_turns n p))) e
    ∙ four (mirror_image (quarter_turns n p)))

abbrev start : Bool → Point → Point
start b p = if b then mirror_image p else p

-- the turn that mirrors where one of the two does, and turns by the quarters of both
pub after_plain : (m n : ℕ) (b : Bool) (p : Point) → quarter_turns ((m + n) % 4) (start b p) ≡ quarter_turns m (quarter_turns n (start b p))
after_plain m n b p = quarter_turns-% (m + n) (start b p) ∙ quarter_turns-+ m n (start b p)

start-not : (b : Bool) (p : Point) → start (not b) p ≡ mirror_image (start b p)
start-not true p = sym (mirror_image-mirror_image p)
start-not false p = refl

pub after_mirror : (m n : ℕ) (b : Bool) (p : Point) → n < 4 → quarter_turns ((4 + m - n) % 4) (start (not b) p) ≡ quarter_turns m (mirror_image (quarter_turns n (start b p)))
after_mirror m n b p h =
    let e : 4 + m - n ≡ m + (4 - n) = omega arith in
    quarter_turns-% (4 + m - n) (start (not b) p) ∙ ap (λ k. quarter_turns k (start (not b) p)) e ∙ quarter_turns-+ m (4 - n) (start (not b) p)
    ∙ ap (λ x. quarter_turns m (quarter_turns (4 - n) x)) (start-not b p) ∙ ap (quarter_turns m) (sym (mirror_image-quarter_turns n (start b p) h))
