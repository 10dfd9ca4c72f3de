-- runs of consecutive numbers, and what runs come to that are joined where they meet
use Rattle.std.specs.Prelude.{ℤ, List, Option, Some, None, All, AllPairs, Contains, ◌≤ℤ◌, ◌<ℤ◌, ◌⊎◌, ◌↔◌}
use Rattle.geo_core.specs.Intervals.{IsIn}
use Rattle.ring_test.specs.declared.runs.Run.{Run}
use Rattle.ring_test.specs.declared.merging.Merged.{Merged}
use Rattle.ring_test.specs.declared.merging.Merged.TheVariants.{Nothing, One, Two, More}

-- the number is one of the run's
abbrev pub IsInRun : Run → ℤ → Type 0
IsInRun run k = IsIn run.from run.to k

-- it is one of the run's, where there is one
abbrev pub IsInRunOf : Option Run → ℤ → Type 0
IsInRunOf None k = ⊥
IsInRunOf (Some run) k = IsInRun run k

-- a run of the list has it
pub record IsInRuns (runs : List Run) (k : ℤ) : Type 0 where
  pub run : Run
  pub among : Contains runs run
  pub has : IsInRun run k

-- in the order of their first numbers
abbrev pub AreByFirst : List Run → Type 0
AreByFirst = AllPairs (λ a b. a.from ≤ℤ b.from)

-- the set has three numbers with others between them, and the last of the three is at most `latest`
pub record HasThree (set : ℤ → Type 0) (latest : ℤ) : Type 0 where
  pub first : ℤ
  pub gap : ℤ
  pub second : ℤ
  pub other_gap : ℤ
  pub third : ℤ
  pub rising : (first <ℤ gap) × (gap <ℤ second) × (second <ℤ other_gap) × (other_gap <ℤ third)
  pub known : third ≤ℤ latest
  pub has : set first × set second × set third
  pub lacks : (set gap → ⊥) × (set other_gap → ⊥)

-- the set has the numbers of these runs, each of which begins at `latest` or before, or of more than two
abbrev pub ComesTo : (ℤ → Type 0) → ℤ → Merged → Type 0
ComesTo set latest Nothing = (k : ℤ) → set k → ⊥
ComesTo set latest (One run) = (run.from ≤ℤ latest) × ((k : ℤ) → set k ↔ IsInRun run k)
ComesTo set latest (Two first last) =
    (first.to <ℤ last.from) × (last.from ≤ℤ latest) × ((k : ℤ) → set k ↔ (IsInRun first k ⊎ IsInRun last k))
ComesTo set latest More = HasThree set latest

-- the runs of the list come to these
pub record IsMerged (runs : List Run) (merged : Merged) : Type 0 where
  pub comes_to : (latest : ℤ) → All (λ run. run.from ≤ℤ latest) runs → ComesTo (IsInRuns runs) latest merged
