-- the search for classes, at any moment
use Rattle.std.specs.Prelude.{slice_set, ℕ, suc, List, [], ◌∷◌, ◌++◌, Contains, length, slice_index, ◌≡◌, ◌≤◌, ◌<◌, ◌⊎◌}
use Rattle.paths.specs.Paths.{Path}
use Rattle.classes.specs.inside.Index.{HasNeighbour}

-- the place lies between k's start and the next number's
abbrev pub IsPlaceOf : List ℕ → ℕ → ℕ → Type 0
IsPlaceOf starts k place = (slice_index starts k ≤ place) × (place < slice_index starts (suc k))

-- an index of the numbers below n, in which neighbours have each other
pub record IsGraph (n : ℕ) (starts neighbours : List ℕ) : Type 0 where
  pub counted : length starts ≡ suc n
  pub rising : (k : ℕ) → k < n → slice_index starts k ≤ slice_index starts (suc k)
  pub within : (k : ℕ) → k < n → slice_index starts (suc k) ≤ length neighbours
  pub below : (k x : ℕ) → HasNeighbour starts neighbours k x → x < n
  pub back : (k x : ℕ) → HasNeighbour starts neighbours k x → HasNeighbour starts neighbours x k

-- a chain of neighbours below n leads from the one number to the other
abbrev pub LeadsTo : ℕ → List ℕ → List ℕ → ℕ → ℕ → Type 0
LeadsTo n starts neighbours = Path (λ k. k < n) (HasNeighbour starts neighbours)

-- the number's entry is a class, not the mark of one that has none
abbrev pub HasClass : List ℕ → ℕ → Type 0
HasClass classes k = slice_index classes k < length classes

-- the neighbour at this place has k's class
abbrev pub SharesClass : List ℕ → List ℕ → ℕ → ℕ → Type 0
SharesClass neighbours classes k place = slice_index classes (slice_index neighbours place) ≡ slice_index classes k

-- a chain leads from each number's class to it, and the class is not above it
pub record IsSound (starts neighbours classes : List ℕ) : Type 0 where
  pub joined : (k : ℕ) → k < length classes → HasClass classes k → LeadsTo (length classes) starts neighbours (slice_index classes k) k
  pub low : (k : ℕ) → k < length classes → HasClass classes k → slice_index classes k ≤ k

-- between two walks: all neighbours share a class where one of them has any, and the numbers below `count` have one
pub record IsSettled (starts neighbours classes : List ℕ) (count : ℕ) : Type 0 where
  pub sound : IsSound starts neighbours classes
  pub closed : (a place : ℕ) → IsPlaceOf starts a place → HasClass classes a → SharesClass neighbours classes a place
  pub earlier : (k : ℕ) → k < count → HasClass classes k

-- During the walk from `start`: neighbours may differ where one waits in the queue, whose numbers all have the class
-- `start`, and where one is `i` and the other stands at `from` or later.
pub record IsSpreading (starts neighbours classes todo : List ℕ) (start i from : ℕ) : Type 0 where
  pub sound : IsSound starts neighbours classes
  pub closed :
      (a place : ℕ) → IsPlaceOf starts a place → HasClass classes a →
      (Contains todo a ⊎ SharesClass neighbours classes a place) ⊎ ((a ≡ i) × (from ≤ place))
  pub pending : (a : ℕ) → Contains todo a → (a < length classes) × (slice_index classes a ≡ start)
  pub earlier : (k : ℕ) → k < start → HasClass classes k
  pub begun : slice_index classes start ≡ start

-- a number that had no class has this one now and waits in the queue, and one that had a class is left alone
pub record IsMarked (classes todo : List ℕ) (class number : ℕ) (classes' todo' : List ℕ) : Type 0 where
  pub had : HasClass classes number → (classes' ≡ classes) × (todo' ≡ todo)
  pub new : length classes ≤ slice_index classes number → (classes' ≡ slice_set classes number class) × (todo' ≡ todo ++ number ∷ [])
