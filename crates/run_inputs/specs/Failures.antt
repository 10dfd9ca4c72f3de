-- a thing before and after, counts of failures, and names of which files are not sure
use Rattle.std.specs.Prelude.{ℕ, List, ◌≡◌, Contains}
use Rattle.edge_io.specs.FailureCounts.{Rose}

-- a thing before a run, and after it
pub record Change (A : Type 0) : Type 0 where
  pub before : A
  pub after : A

-- from both
abbrev pub change : {A : Type 0} → A → A → Change A
change before after = record { before = before; after = after }

-- Something failed, as far as its count tells: the count rose, or it stood and stands at its last value, where it cannot rise.
-- There this holds whether anything failed or not.
abbrev pub HasRisen : Change ℕ → Type 0
HasRisen failures = Rose failures.before failures.after

-- the count is as it was
abbrev pub IsCalm : Change ℕ → Type 0
IsCalm failures = failures.after ≡ failures.before

-- there is one of these names of which files that are sure of such names are not sure
abbrev pub IsUnsureOf : (List ℕ → Type 0) → List (List ℕ) → Type 0
IsUnsureOf sure names = (name : List ℕ) × Contains names name × (sure name → ⊥)
