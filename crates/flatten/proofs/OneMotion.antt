-- steps one after the other are one motion, and what a motion moves tells the motion
use Rattle.std.proofs.Common.{ℕ, zero, suc, ◌+◌, ◌-◌, ◌%◌, ◌<◌, ◌≡◌, Bool, true, false, not, List, [], ◌∷◌, refl, sym, ap, ◌∙◌, arith, ℤ, pos, negsuc, ◌+ℤ◌, if◌then◌else◌}
use Rattle.lists.proofs.Words.{ints}
use Rattle.geo_core.specs.Plane.{mirror_image, quarter_turn, quarter_turns, image_under}
use Rattle.geo_core.specs.declared.plane.Point.{Point}
use Rattle.geo_core.specs.declared.plane.Turn.{Turn}
use Rattle.geo_core.proofs.TurnLaws.{after_mirror, after_plain, at, same_at}
use Rattle.library_model.proofs.laws.SameParts.{same_turn}
use Rattle.flatten.specs.Steps.{Step, shifted, shift_of, moved_by}
use Rattle.flatten.specs.Motions.{MovesAlong, image_by}
use Rattle.flatten.specs.declared.motion.Motion.{Motion}
use Rattle.flatten.proofs.MotionLaws.{moves_behind}

-- ---- there is one

-- a turn, and then one that mirrors if this holds and goes so many quarters, are one turn
turned_behind : (b : Bool) (m : ℕ) (inner : Turn)
    → (both : Turn) × ((p : Point) → image_under both p ≡ quarter_turns m (if b then mirror_image (image_under inner p) else image_under inner p))
turned_behind true m inner = (
  record { reflect = not inner.reflect; quarters = (4 + m - inner.quarters) % 4; whole = omega arith },
  λ p. after_mirror m inner.quarters inner.reflect p inner.whole,
)
turned_behind false m inner = (
  record { reflect = inner.reflect; quarters = (m + inner.quarters) % 4; whole = omega arith },
  λ p. after_plain m inner.quarters inner.reflect p,
)

-- the motion that moves nothing
abbrev standing : Motion
standing = record { turn = record { reflect = false; quarters = 0; whole = omega arith }; dx = pos 0; dy = pos 0 }

pub one_motion : (steps : List Step) → (motion : Motion) × MovesAlong motion steps
one_motion [] = (standing, λ p. same_at (p.x +ℤ pos 0) (p.y +ℤ pos 0) p.x p.y (omega (arith, ints)) (omega (arith, ints)))
one_motion (step ∷ steps) =
    let rest = one_motion steps in
    let outer : Turn = step.reference.turn in
    let inner : Turn = rest.0.turn in
    let both = turned_behind outer.reflect outer.quarters inner in
    let inner_by : Point = at rest.0.dx rest.0.dy in
    let by : Point = shifted (shift_of step) (image_under outer inner_by) in (
      record { turn = both.0; dx = by.x; dy = by.y },
      λ p. moves_behind outer inner both.0 (shift_of step) inner_by by both.1 refl refl p ∙ ap (moved_by step) (rest.1 p),
    )

-- ---- and no other

abbrev origin : Point
origin = at (pos 0) (pos 0)

-- the origin stays where it is
turned_origin : (n : ℕ) → quarter_turns n origin ≡ origin
turned_origin zero = refl
turned_origin (suc n) = ap quarter_turn (turned_origin n)

-- a point that is its own mirror image
own_mirror : (turn : Turn) (p : Point) → mirror_image p ≡ p → image_under turn p ≡ quarter_turns turn.quarters p
own_mirror turn p own = by_mirror turn.reflect
  where
    by_mirror : (b : Bool) → quarter_turns turn.quarters (if b then mirror_image p else p) ≡ quarter_turns turn.quarters p
    by_mirror true = ap (quarter_turns turn.quarters) own
    by_mirror false = refl

-- so the shift is where it comes
shift_shows : (motion : Motion) → image_by motion origin ≡ at motion.dx motion.dy
shift_shows motion =
    ap (shifted (at motion.dx motion.dy)) (own_mirror motion.turn origin refl ∙ turned_origin motion.turn.quarters)
    ∙ same_at (pos 0 +ℤ motion.dx) (pos 0 +ℤ motion.dy) motion.dx motion.dy (omega (arith, ints)) (omega (arith, ints))

-- equal shifts leave points as they differ
unshifted : (by p q : Point) → shifted by p ≡ shifted by q → p ≡ q
unshifted by p q e =
    let across : p.x +ℤ by.x ≡ q.x +ℤ by.x = ap (λ r. r.x) e in
    let up : p.y +ℤ by.y ≡ q.y +ℤ by.y = ap (λ r. r.y) e in
    same_at p.x p.y q.x q.y (omega (arith, ints)) (omega (arith, ints))

-- how many quarters lead a point on the right to this point
abbrev quarters_to : ℤ → ℤ → ℕ
quarters_to (pos (suc x)) y = 0
quarters_to (pos zero) (pos y) = 1
quarters_to (pos zero) (negsuc y) = 3
quarters_to (negsuc x) y = 2

abbrev right : Point
right = at (pos 1) (pos 0)

abbrev above : Point
above = at (pos 0) (pos 1)

quarters_show : (n : ℕ) → n < 4 → let p = quarter_turns n right in quarters_to p.x p.y ≡ n
quarters_show zero h = refl
quarters_show (suc zero) h = refl
quarters_show (suc (suc zero)) h = refl
quarters_show (suc (suc (suc zero))) h = refl
quarters_show (suc (suc (suc (suc n)))) h = absurd (omega arith)

-- no turn by quarters leads a point above and the one below to one place
opposite : (n : ℕ) → n < 4 → quarter_turns n (mirror_image above) ≡ quarter_turns n above → ⊥
opposite zero h e = let up : negsuc 0 ≡ pos 1 = ap (λ r. r.y) e in cc
opposite (suc zero) h e = let across : pos 1 ≡ negsuc 0 = ap (λ r. r.x) e in cc
opposite (suc (suc zero)) h e = let up : pos 1 ≡ negsuc 0 = ap (λ r. r.y) e in cc
opposite (suc (suc (suc zero))) h e = let across : negsuc 0 ≡ pos 1 = ap (λ r. r.x) e in cc
opposite (suc (suc (suc (suc n)))) h e = absurd (omega arith)

mirrors_agree : (n : ℕ) → n < 4 → (b c : Bool) → quarter_turns n (if b then mirror_image above else above) ≡ quarter_turns n (if c then mirror_image above else above) → b ≡ c
mirrors_agree n h true true e = refl
mirrors_agree n h true false e = absurd (opposite n h e)
mirrors_agree n h false true e = absurd (opposite n h (sym e))
mirrors_agree n h false false e = refl

turns_agree : (one other : Turn) → ((p : Point) → image_under one p ≡ image_under other p) → one ≡ other
turns_agree one other same = same_turn one other mirrors quarters
  where
    lead : quarter_turns one.quarters right ≡ quarter_turns other.quarters right
    lead = sym (own_mirror one right refl) ∙ same right ∙ own_mirror other right refl

    quarters : one.quarters ≡ other.quarters
    quarters = sym (quarters_show one.quarters one.whole) ∙ ap (λ p. quarters_to p.x p.y) lead ∙ quarters_show other.quarters other.whole

    mirrors : one.reflect ≡ other.reflect
    mirrors = mirrors_agree one.quarters one.whole one.reflect other.reflect
        (same above ∙ ap (λ n. quarter_turns n (if other.reflect then mirror_image above else above)) (sym quarters))

pub motions_agree : (one other : Motion) → ((p : Point) → image_by one p ≡ image_by other p) → one ≡ other
motions_agree one other same = ap (moving one.turn) shifts ∙ ap (λ turn. moving turn (at other.dx other.dy)) turns
  where
    moving : Turn → Point → Motion
    moving turn by = record { turn = turn; dx = by.x; dy = by.y }

    shifts : at one.dx one.dy ≡ at other.dx other.dy
    shifts = sym (shift_shows one) ∙ same origin ∙ shift_shows other

    turns : one.turn ≡ other.turn
    turns = turns_agree one.turn other.turn
        (λ p. unshifted (at other.dx other.dy) (image_under one.turn p) (image_under other.turn p)
        (ap (λ by. shifted by (image_under one.turn p)) (sym shifts) ∙ same p))
