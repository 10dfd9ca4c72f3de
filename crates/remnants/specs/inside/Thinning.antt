-- terminals that others stand for
use Rattle.std.specs.Prelude.{ℕ, List, Some, Contains, ◌≡◌}
use Rattle.remnants.specs.declared.parts.Loose.{Loose}
use Rattle.remnants.specs.declared.parts.Mark.{Mark}
use Rattle.remnants.specs.inside.Marking.{IsMarked}

-- a loose box is of the terminal
pub record HasLooseBox (loose : List Loose) (terminal : ℕ) : Type 0 where
  pub one : Loose
  pub among : Contains loose one
  pub of_terminal : one.terminal ≡ Some terminal

-- another one that stays is nowhere but where the terminal is: nothing of it is loose, and it has marks, each at a leader at which
-- the terminal has one, too
pub record StandsFor (terminals : List ℕ) (has_loose : ℕ → Type 0) (marks : List Mark) (gone : List ℕ) (other terminal : ℕ) : Type 0 where
  pub listed : Contains terminals other
  pub stays : Contains gone other → ⊥
  pub settled : has_loose other → ⊥
  pub somewhere : (leader : ℕ) × IsMarked marks other leader
  pub covered : (leader : ℕ) → IsMarked marks other leader → IsMarked marks terminal leader

abbrev pub IsStoodFor : List ℕ → (ℕ → Type 0) → List Mark → List ℕ → ℕ → Type 0
IsStoodFor terminals has_loose marks gone terminal = (other : ℕ) × StandsFor terminals has_loose marks gone other terminal
