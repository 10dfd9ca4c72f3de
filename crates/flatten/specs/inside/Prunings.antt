-- what is left of a graph once all that places nothing has gone
use Rattle.std.specs.Prelude.{ℕ, Bool, false, ◌↔◌, List, [], ◌∷◌, ◌≡◌, ◌<◌, ◌≤◌, length}
use Rattle.flatten.specs.inside.FollowedParts.{Nodes, parts_at}
use Rattle.flatten.specs.inside.Ends.{node_routes}
use Rattle.flatten.specs.inside.Surveys.{AreDone, AreTrue}
use Rattle.flatten.specs.declared.part.Part.{Part}
use Rattle.flatten.specs.declared.part.Part.TheVariants.{End, Copies}
use Rattle.flatten.specs.declared.summary.State.{State}

-- no route leads from the structure to a shape of a mapped layer, however many steps it may have
abbrev pub IsBarren : Nodes → ℕ → Type 0
IsBarren nodes one = (left : ℕ) → node_routes nodes left one ≡ []

-- the part places nothing
abbrev pub IsBarrenPart : Nodes → Part → Type 0
IsBarrenPart nodes (End element layer shape) = ⊥
IsBarrenPart nodes (Copies reference target) = IsBarren nodes target

-- what is left of parts, in their order: what goes places nothing, and what stays places something
pub data Prunes (nodes : Nodes) : List Part → List Part → Type 0 where
  no_more : Prunes nodes [] []
  goes : {part : Part} {parts left : List Part} → IsBarrenPart nodes part → Prunes nodes parts left → Prunes nodes (part ∷ parts) left
  stays : {part : Part} {parts left : List Part} → (IsBarrenPart nodes part → ⊥) → Prunes nodes parts left
      → Prunes nodes (part ∷ parts) (part ∷ left)

-- this is left of the parts of each structure
pub record IsPruned (nodes pruned : Nodes) : Type 0 where
  pub long : length pruned ≡ length nodes
  pub prunes : (one : ℕ) → Prunes nodes (parts_at nodes one) (parts_at pruned one)

-- so far, before the structure with this number; the others are as they were
pub record IsPrunedTo (nodes now : Nodes) (next : ℕ) : Type 0 where
  pub behind : (one : ℕ) → one < next → Prunes nodes (parts_at nodes one) (parts_at now one)
  pub ahead : (one : ℕ) → next ≤ one → parts_at now one ≡ parts_at nodes one

-- the structures to which all parts refer are surveyed
abbrev pub AreNodesDone : List State → Nodes → Type 0
AreNodesDone states nodes = (one : ℕ) → AreDone states (parts_at nodes one)

-- the answer is false exactly where the part places nothing, in every graph of which the states tell the truth
pub record TellsBarren (states : List State) (part : Part) (answer : Bool) : Type 0 where
  pub tells : (nodes : Nodes) → AreTrue nodes states → AreDone states (part ∷ []) → (answer ≡ false) ↔ IsBarrenPart nodes part
