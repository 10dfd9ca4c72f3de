-- what a search is that surveys one structure and all to which it leads
use Rattle.std.specs.Prelude.{ℕ, suc, List, ◌≡◌, ◌≢◌, ◌+◌, ◌<◌, length, take, All, Contains, sum_by, slice_get, Some, Vec}
use Rattle.lists.specs.Words.{Global}
use Rattle.flatten.specs.inside.FollowedParts.{LeadsTo, parts_at}
use Rattle.flatten.specs.inside.Weights.{Weight, Weighs, IsKept}
use Rattle.flatten.specs.inside.Surveys.{AreDone, state_of}
use Rattle.flatten.specs.declared.part.Part.{Part}
use Rattle.flatten.specs.declared.summary.State.{State}
use Rattle.flatten.specs.declared.summary.State.TheVariants.{New, Open, Done}

-- no part before the one at this place is a reference to a structure that is not done
abbrev pub IsDoneBefore : List State → List Part → ℕ → Type 0
IsDoneBefore states parts next = AreDone states (take next parts)

-- each structure refers to the next
abbrev pub IsWay : List (Vec Part Global) → List ℕ → Type 0
IsWay nodes stack = (i one other : ℕ) → slice_get stack i ≡ Some one → slice_get stack (suc i) ≡ Some other
    → LeadsTo (parts_at nodes one) other

-- what a search from the root says of a structure in this state: the root is not new, what is open lies on the stack and has
-- been followed up to a place, and what is kept of one that is done is true
abbrev pub IsSaid : List (Vec Part Global) → ℕ → List State → List ℕ → ℕ → State → Type 0
IsSaid nodes root states stack one New = one ≢ root
IsSaid nodes root states stack one (Open next) = Contains stack one × IsDoneBefore states (parts_at nodes one) next
IsSaid nodes root states stack one (Done summary) = (weight : Weight) × Weighs nodes one weight × IsKept weight summary

-- A search from the root. On the stack is a way from it, on which each open structure lies.
pub record IsSearch (nodes : List (Vec Part Global)) (root : ℕ) (states : List State) (stack : List ℕ) : Type 0 where
  pub long : length states ≡ length nodes
  pub said : (one : ℕ) → IsSaid nodes root states stack one (state_of states one)
  pub way : IsWay nodes stack
  pub in_nodes : All (λ one. one < length nodes) stack
  pub begins : (one : ℕ) → slice_get stack 0 ≡ Some one → one ≡ root

-- how much is left to do: two steps for each new structure, and one for each on the stack
abbrev pub steps_of_state : State → ℕ
steps_of_state New = 2
steps_of_state (Open next) = 0
steps_of_state (Done summary) = 0

-- in all
abbrev pub steps_left : List State → List ℕ → ℕ
steps_left states stack = sum_by steps_of_state states + length stack
