-- which fixed boxes are kept, and under which numbers
use Rattle.std.specs.Prelude.{ℕ, List, Some, length, slice_get, ◌≡◌, ◌<◌, ◌⊎◌}
use Rattle.half_boxes.specs.HalfBoxes.{TouchHalves}
use Rattle.half_boxes.specs.declared.boxes.HalfBox.{HalfBox}
use Rattle.remnants.specs.declared.parts.Fixed.{Fixed}

-- the box leads itself, or touches `outer`
abbrev pub Matters : HalfBox → ℕ → Fixed → Type 0
Matters outer number one = (one.leader ≡ number) ⊎ TouchHalves one.part outer

-- the places are numbers of boxes, and each box that matters has one, at the number that the box has now
pub record ArePlaces (outer : HalfBox) (fixed : List Fixed) (places numbers : List ℕ) : Type 0 where
  pub one_each : length numbers ≡ length fixed
  pub known : (n k : ℕ) → slice_get places n ≡ Some k → k < length fixed
  pub placed : (k : ℕ) (one : Fixed) → slice_get fixed k ≡ Some one → Matters outer k one →
      (n : ℕ) × (slice_get numbers k ≡ Some n) × (slice_get places n ≡ Some k)

-- the boxes at the places, with the numbers that their leaders have now
pub record AreKept (fixed : List Fixed) (places numbers : List ℕ) (kept : List Fixed) : Type 0 where
  pub as_many : length kept ≡ length places
  pub each : (n k m : ℕ) (one : Fixed) → slice_get places n ≡ Some k → slice_get fixed k ≡ Some one
      → slice_get numbers one.leader ≡ Some m →
      slice_get kept n ≡ Some (record { part = one.part; leader = m })
