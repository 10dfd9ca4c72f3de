-- checks in their order, each by its name
use Rattle.std.specs.Prelude.{List, ◌∷◌, ◌++◌, ◌≡◌, All}
use Rattle.first_refusal.specs.Outcomes.{Outcome, value, refused}

-- the check is the first of the list that fails: all before it hold
pub record IsFirstFailing {N : Type 0} (Holds : N → Type 0) (checks : List N) (check : N) : Type 0 where
  pub before : List N
  pub after : List N
  pub parts : checks ≡ before ++ check ∷ after
  pub all_before : All Holds before
  pub fails : Holds check → ⊥

-- the refusal is that of the first check that fails
pub record IsRefusalOfFirst {N R : Type 0} (Holds : N → Type 0) (checks : List N) (refusal_of : N → R) (refusal : R) : Type 0 where
  pub check : N
  pub is_first : IsFirstFailing Holds checks check
  pub is_its_refusal : refusal ≡ refusal_of check

-- the stage gives a value of this kind where all checks hold, and else the refusal of the first that fails
pub data Checks {N V R : Type 0} (Holds : N → Type 0) (checks : List N) (refusal_of : N → R) (Is : V → Type 0) : Outcome V R → Type 0 where
  all_hold : {v : V} → All Holds checks → Is v → Checks Holds checks refusal_of Is (value v)
  one_fails : {refusal : R} → IsRefusalOfFirst Holds checks refusal_of refusal → Checks Holds checks refusal_of Is (refused refusal)
