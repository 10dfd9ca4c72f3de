-- terminals that have a mark at one leader
use Rattle.std.specs.Prelude.{ℕ, List, Contains, ◌<◌, ◌≡◌, ◌≢◌, ◌⊎◌}
use Rattle.remnants.specs.declared.parts.Mark.{Mark}

-- the one mark is of an earlier terminal, or of the same one at an earlier leader
abbrev pub IsBefore : Mark → Mark → Type 0
IsBefore one other = (one.terminal < other.terminal) ⊎ ((one.terminal ≡ other.terminal) × (one.leader < other.leader))

-- the terminal has a mark at the leader
pub record IsMarked (marks : List Mark) (terminal leader : ℕ) : Type 0 where
  pub mark : Mark
  pub among : Contains marks mark
  pub of_terminal : mark.terminal ≡ terminal
  pub at_leader : mark.leader ≡ leader

-- both terminals have a mark at one leader
abbrev pub ShareLeader : List Mark → ℕ → ℕ → Type 0
ShareLeader marks one other = (leader : ℕ) × IsMarked marks one leader × IsMarked marks other leader

-- two of the terminals have no mark at the same leader
pub record AreUnmarked (terminals : List ℕ) (marks : List Mark) : Type 0 where
  pub one : ℕ
  pub other : ℕ
  pub one_is : Contains terminals one
  pub other_is : Contains terminals other
  pub different : one ≢ other
  pub none : (leader : ℕ) → IsMarked marks one leader → IsMarked marks other leader → ⊥
