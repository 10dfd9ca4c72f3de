-- turns of shifted points, and how far they shift
use Rattle.std.proofs.Common.{ℕ, zero, suc, ◌≤◌, ◌≡◌, Bool, true, false, refl, sym, ap, ◌∙◌, arith, ℤ, neg_ℤ, ◌+ℤ◌, nat_abs, if◌then◌else◌}
use Rattle.lists.proofs.Words.{ints}
use Rattle.std.proofs.Math.IntN.{+ℤ_assoc}
use Rattle.geo_core.specs.Plane.{mirror_image, quarter_turns, image_under}
use Rattle.geo_core.specs.declared.plane.Point.{Point}
use Rattle.geo_core.specs.declared.plane.Turn.{Turn}
use Rattle.geo_core.proofs.TurnLaws.{at, same_at}
use Rattle.flatten.specs.Steps.{shifted}

neg-+ : (a b : ℤ) → neg_ℤ (a +ℤ b) ≡ neg_ℤ a +ℤ neg_ℤ b
neg-+ a b = omega (arith, ints)

abs-neg : (a : ℤ) → nat_abs (neg_ℤ a) ≡ nat_abs a
abs-neg a = omega (arith, ints)

-- a shifted point's image is the image, shifted by the image of the shift
quarter_turns-shifted : (n : ℕ) (by p : Point) → quarter_turns n (shifted by p) ≡ shifted (quarter_turns n by) (quarter_turns n p)
quarter_turns-shifted zero by p = refl
quarter_turns-shifted (suc n) by p = rw (quarter_turns-shifted n by p) (ap (λ x. at x ((quarter_turns n p).x +ℤ (quarter_turns n by).x)) (neg-+ (quarter_turns n p).y (quarter_turns n by).y))

start-shifted : (b : Bool) (by p : Point) → (if b then mirror_image (shifted by p) else shifted by p) ≡ shifted (if b then mirror_image by else by) (if b then mirror_image p else p)
start-shifted true by p = ap (at (p.x +ℤ by.x)) (neg-+ p.y by.y)
start-shifted false by p = refl

pub image_under-shifted : (turn : Turn) (by p : Point) → image_under turn (shifted by p) ≡ shifted (image_under turn by) (image_under turn p)
image_under-shifted turn by p =
    ap (quarter_turns turn.quarters) (start-shifted turn.reflect by p)
    ∙ quarter_turns-shifted turn.quarters (if turn.reflect then mirror_image by else by) (if turn.reflect then mirror_image p else p)

-- shifts add up
shifted-shifted : (by more p : Point) → shifted more (shifted by p) ≡ shifted (shifted more by) p
shifted-shifted by more p = same_at _ _ _ _ (+ℤ_assoc p.x by.x more.x) (+ℤ_assoc p.y by.y more.y)

-- both coordinates are within this much of 0
pub record IsWithin (m : ℕ) (p : Point) : Type 0 where
  pub across : nat_abs p.x ≤ m
  pub up : nat_abs p.y ≤ m

IsWithin-quarter_turns : (m n : ℕ) (p : Point) → IsWithin m p → IsWithin m (quarter_turns n p)
IsWithin-quarter_turns m zero p h = h
IsWithin-quarter_turns m (suc n) p h =
    let before = IsWithin-quarter_turns m n p h in
    record { across = omega (arith, abs-neg (quarter_turns n p).y, before.up); up = before.across }

IsWithin-start : (m : ℕ) (b : Bool) (p : Point) → IsWithin m p → IsWithin m (if b then mirror_image p else p)
IsWithin-start m true p h = record { across = h.across; up = omega (arith, abs-neg p.y, h.up) }
IsWithin-start m false p h = h

-- a turn keeps a point as near
pub IsWithin-image_under : (m : ℕ) (turn : Turn) (p : Point) → IsWithin m p → IsWithin m (image_under turn p)
IsWithin-image_under m turn p h = IsWithin-quarter_turns m turn.quarters (if turn.reflect then mirror_image p else p) (IsWithin-start m turn.reflect p h)

-- what one motion does behind another, from what is known of their turns and of the shift
module _ (outer inner both : Turn) (outer_by inner_by by : Point) (after : (p : Point) → image_under both p ≡ image_under outer (image_under inner p))
    (across : by.x ≡ (image_under outer inner_by).x +ℤ outer_by.x) (up : by.y ≡ (image_under outer inner_by).y +ℤ outer_by.y) where
  pub moves_behind : (p : Point) → shifted by (image_under both p) ≡ shifted outer_by (image_under outer (shifted inner_by (image_under inner p)))
  moves_behind p =
      let shift : by ≡ shifted outer_by (image_under outer inner_by) = same_at by.x by.y _ _ across up in
      rw (shift, after p, image_under-shifted outer inner_by (image_under inner p))
      (sym (shifted-shifted (image_under outer inner_by) outer_by (image_under outer (image_under inner p))))

-- a shift by equal amounts
pub shifted_alike : (dx dy : ℤ) (by p : Point) → dx ≡ by.x → dy ≡ by.y → shifted (at dx dy) p ≡ shifted by p
shifted_alike dx dy by p across up = ap (λ b. shifted b p) (same_at dx dy by.x by.y across up)
