-- the outlines of a rectangle wind round its cells, once
use Rattle.std.proofs.Common.{reverse, ℕ, zero, suc, ◌<◌, ◌≡◌, ◌≢◌, refl, sym, ap, ◌∙◌, List, [], ◌∷◌, map, Bool, true, false, arith, ℤ, pos, negsuc, neg_ℤ, ◌-ℤ◌, ◌<ℤ◌, ◌↔◌, int_le}
use Rattle.lists.proofs.Words.{ints, by_lt_z}
use Rattle.geo_core.specs.Plane.{IsIn, Has, circuit}
use Rattle.geo_core.specs.declared.plane.Point.{Point}
use Rattle.geo_core.specs.declared.plane.Cell.{Cell}
use Rattle.geo_core.specs.declared.plane.Rect.{Rect}
use Rattle.outlines.specs.Outlines.{winding_number}
use Rattle.outlines.specs.Rectangles.{rectangle_corners, rotation, GoesRound, counterclockwise, clockwise}
use Rattle.outlines.proofs.CountLaws.{le_false, le_true}
use Rattle.outlines.proofs.WindLaws.{Place, place_of, counted, left_rises, left_falls, winds_by_places}

-- where a number lies beside an interval
data Where : Type 0 where
  before : Where
  inside : Where
  behind : Where

-- whether its two ends lie no further than the number
from_low : Where → Bool
from_low before = false
from_low inside = true
from_low behind = true

from_high : Where → Bool
from_high before = false
from_high inside = false
from_high behind = true

IsInside : Where → Type 0
IsInside before = ⊥
IsInside inside = Unit {0}
IsInside behind = ⊥

record LiesAt (low high x : ℤ) : Type 0 where
  place : Where
  low_told : int_le low x ≡ from_low place
  high_told : int_le high x ≡ from_high place
  told : IsIn low high x ↔ IsInside place

lies_at : (low high x : ℤ) → low <ℤ high → LiesAt low high x
unfolding from_low from_high IsInside
lies_at low high x some =
    by_lt_z x low
    (λ under. record {
      place = before;
      low_told = le_false low x under;
      high_told = le_false high x (omega (arith, ints));
      told = ((λ h. let f = h.from in absurd (omega (arith, ints))), λ no. absurd no);
    })
    (λ over. by_lt_z x high
    (λ within. record { place = inside; low_told = le_true low x over; high_told = le_false high x within; told = ((λ h. tt), λ yes. record { from = over; before = within }) })
    (λ past. record { place = behind; low_told = le_true low x over; high_told = le_true high x past; told = ((λ h. let f = h.before in absurd (omega (arith, ints))), λ no. absurd no) }))

-- the places of the corners
places : Bool → Bool → Bool → Bool → List Place
places a b c d = (a, c) ∷ (b, c) ∷ (b, d) ∷ (a, d) ∷ []

round : List Place → ℤ
round l = pos (counted left_rises l) -ℤ pos (counted left_falls l)

four : (P : ℕ → Type 0) → P 0 → P 1 → P 2 → P 3 → (k : ℕ) → k < 4 → P k
four P a b c d zero h = a
four P a b c d (suc zero) h = b
four P a b c d (suc (suc zero)) h = c
four P a b c d (suc (suc (suc zero))) h = d
four P a b c d (suc (suc (suc (suc k)))) h = absurd (omega arith)

-- counterclockwise the one vertical edge on the left of a cell inside goes down
turns : Where → Where → ℤ
turns before up = pos 0
turns inside before = pos 0
turns inside inside = negsuc 0
turns inside behind = pos 0
turns behind up = pos 0

-- wherever it begins, in the one direction and in the other
abbrev Winds : Where → Where → ℕ → Type 0
Winds across up start =
    let corners = places (from_low across) (from_high across) (from_low up) (from_high up) in
    (round (circuit (rotation start corners)) ≡ turns across up) × (round (circuit (rotation start (reverse corners))) ≡ neg_ℤ (turns across up))

wound : (across up : Where) (start : ℕ) → start < 4 → Winds across up start
unfolding places round from_low from_high turns
wound before up = four (Winds before up) (refl, refl) (refl, refl) (refl, refl) (refl, refl)
wound inside before = four (Winds inside before) (refl, refl) (refl, refl) (refl, refl) (refl, refl)
wound inside inside = four (Winds inside inside) (refl, refl) (refl, refl) (refl, refl) (refl, refl)
wound inside behind = four (Winds inside behind) (refl, refl) (refl, refl) (refl, refl) (refl, refl)
wound behind before = four (Winds behind before) (refl, refl) (refl, refl) (refl, refl) (refl, refl)
wound behind inside = four (Winds behind inside) (refl, refl) (refl, refl) (refl, refl) (refl, refl)
wound behind behind = four (Winds behind behind) (refl, refl) (refl, refl) (refl, refl) (refl, refl)

turns_tell : (across up : Where) → (turns across up ≢ pos 0) ↔ (IsInside across × IsInside up)
unfolding turns IsInside
turns_tell before up = ((λ h. absurd (h refl)), λ h. absurd h.0)
turns_tell inside before = ((λ h. absurd (h refl)), λ h. absurd h.1)
turns_tell inside inside = ((λ h. (tt, tt)), λ h e. cc)
turns_tell inside behind = ((λ h. absurd (h refl)), λ h. absurd h.1)
turns_tell behind up = ((λ h. absurd (h refl)), λ h. absurd h.0)

-- a number that is 0 in both signs or in neither
no_turn : (w z : ℤ) → w ≡ neg_ℤ z → (w ≡ pos 0) ↔ (z ≡ pos 0)
no_turn w z e = ((λ h. omega (arith, ints)), λ h. omega (arith, ints))

module _ (rect : Rect) (c : Cell) where
  x : LiesAt rect.x0 rect.x1 c.i
  x = lies_at rect.x0 rect.x1 c.i rect.across.some

  y : LiesAt rect.y0 rect.y1 c.j
  y = lies_at rect.y0 rect.y1 c.j rect.up.some

  corners : List Place
  corners = places (int_le rect.x0 c.i) (int_le rect.x1 c.i) (int_le rect.y0 c.j) (int_le rect.y1 c.j)

  corners_told : corners ≡ places (from_low x.place) (from_high x.place) (from_low y.place) (from_high y.place)
  unfolding corners
  corners_told = rw (x.low_told, x.high_told, y.low_told, y.high_told) refl

  placed : (start : ℕ) → start < 4 →
      (map (place_of c) (circuit (rotation start (rectangle_corners rect))) ≡ circuit (rotation start corners))
      × (map (place_of c) (circuit (rotation start (reverse (rectangle_corners rect)))) ≡ circuit (rotation start (reverse corners)))
  unfolding corners places
  placed = four _ (refl, refl) (refl, refl) (refl, refl) (refl, refl)

  -- what the outline winds, with a sign or without, tells whether the cell is in the rectangle
  told_by_turns : (w : ℤ) → (w ≡ pos 0) ↔ (turns x.place y.place ≡ pos 0) → (w ≢ pos 0) ↔ Has rect c
  told_by_turns w none =
      let t = turns_tell x.place y.place in (
        λ n. let i = t.0 (λ z. n (none.1 z)) in record { across = x.told.1 i.0; up = y.told.1 i.1 },
        λ h z. t.1 (x.told.0 h.across, y.told.0 h.up) (none.0 z),
      )

  pub rectangle_covered : (points : List Point) → GoesRound rect points → (winding_number points c ≢ pos 0) ↔ Has rect c
  unfolding round
  rectangle_covered points (counterclockwise start h e) =
      let w : winding_number points c ≡ turns x.place y.place =
      winds_by_places c points ∙ ap (λ l. round (map (place_of c) l)) e ∙ ap round (placed start h).0 ∙ ap (λ l. round (circuit (rotation start l))) corners_told
      ∙ (wound x.place y.place start h).0 in
      told_by_turns (winding_number points c) ((λ z. sym w ∙ z), λ z. w ∙ z)
  rectangle_covered points (clockwise start h e) =
      let w : winding_number points c ≡ neg_ℤ (turns x.place y.place) =
      winds_by_places c points ∙ ap (λ l. round (map (place_of c) l)) e ∙ ap round (placed start h).1 ∙ ap (λ l. round (circuit (rotation start (reverse l)))) corners_told
      ∙ (wound x.place y.place start h).1 in
      told_by_turns (winding_number points c) (no_turn (winding_number points c) (turns x.place y.place) w)
