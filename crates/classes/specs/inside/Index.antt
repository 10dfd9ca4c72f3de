-- an index of pairs: one list of neighbours, in which each number has the places from its start to the next number's
use Rattle.std.specs.Prelude.{ℕ, suc, List, length, take, sum, slice_index, Contains, ◌+◌, ◌≡◌, ◌<◌, ◌≤◌}
use Rattle.classes.specs.Classes.{IsPair}
use Rattle.classes.specs.inside.Degrees.{degree_of}

-- each number starts where the degrees before it add up to, and one start more ends the list
pub record IsStarts (degrees starts : List ℕ) : Type 0 where
  pub one_more : length starts ≡ suc (length degrees)
  pub summed : (k : ℕ) → k ≤ length degrees → slice_index starts k ≡ sum (take k degrees)

-- each number of a pair has a start and an end, with as many places between as its degree, all within the list
pub record IsLaidOut (pairs : List (ℕ × ℕ)) (starts : List ℕ) (size : ℕ) : Type 0 where
  pub below : (a b : ℕ) → Contains pairs (a, b) → (suc a < length starts) × (suc b < length starts)
  pub room : (k : ℕ) → suc k < length starts → slice_index starts k + degree_of k pairs ≡ slice_index starts (suc k)
  pub within : (k : ℕ) → k < length starts → slice_index starts k ≤ size

-- x stands at one of k's places
pub record HasNeighbour (starts neighbours : List ℕ) (k x : ℕ) : Type 0 where
  pub place : ℕ
  pub from : slice_index starts k ≤ place
  pub to : place < slice_index starts (suc k)
  pub is : slice_index neighbours place ≡ x

-- the neighbours of a number are exactly the numbers that it is a pair with
pub record IsIndexOf (pairs : List (ℕ × ℕ)) (starts neighbours : List ℕ) : Type 0 where
  pub rising : (k : ℕ) → suc k < length starts → slice_index starts k ≤ slice_index starts (suc k)
  pub within : (k : ℕ) → suc k < length starts → slice_index starts (suc k) ≤ length neighbours
  pub sound : (k x : ℕ) → suc k < length starts → HasNeighbour starts neighbours k x → IsPair pairs k x
  pub complete : (k x : ℕ) → IsPair pairs k x → HasNeighbour starts neighbours k x
