-- what is known of a library before its shapes are placed
use Rattle.std.specs.Prelude.{ℕ, List, ◌≡◌, ◌<◌, ◌^◌, All, length, Option, Vec}
use Rattle.lists.specs.Words.{Global}
use Rattle.first_refusal.specs.Outcomes.{Outcome, value}
use Rattle.first_refusal.specs.Checks.{Checks}
use Rattle.library_model.specs.Names.{names_of}
use Rattle.library_model.specs.declared.library.Structure.{Structure}
use Rattle.map_model.specs.MapNames.{LayerMap}
use Rattle.flatten.specs.Structures.{all_references}
use Rattle.flatten.specs.inside.FollowedParts.{AreNodes, IsKnown, AreNodesBelow}
use Rattle.flatten.specs.inside.Weights.{Weight, Weighs}
use Rattle.flatten.specs.inside.Surveys.{AreSettled, state_of}
use Rattle.flatten.specs.Placements.{Choosing, LibraryHolds, library_checks, library_fault}
use Rattle.flatten.specs.declared.fault.PlaceFault.{PlaceFault}
use Rattle.flatten.specs.declared.plan.Plan.{Plan}
use Rattle.flatten.specs.declared.summary.Summary.{Summary}
use Rattle.flatten.specs.declared.summary.State.TheVariants.{Done}
use Rattle.flatten.specs.declared.part.Part.{Part}

-- The index has the names of the structures, in their order, and there are no more of them than 32 bits number.
pub record AreIndexed (structures : List Structure) (index : List (List ℕ)) : Type 0 where
  pub names : index ≡ names_of structures
  pub few : length structures < 2 ^ 32

-- these are the parts of the structures, each reference names one of them, and each has a weight
pub record AreSurveyed (structures : List Structure) (layer_map : LayerMap) (nodes : List (Vec Part Global)) : Type 0 where
  pub nodes_are : AreNodes (names_of structures) layer_map structures nodes
  pub below : AreNodesBelow (length nodes) nodes
  pub known : All (IsKnown (names_of structures)) (all_references structures)
  pub weighed : (one : ℕ) → one < length structures → (weight : Weight) × Weighs nodes one weight

-- the structure with this number is the top
abbrev pub IsChosen : List Structure → Option (List ℕ) → ℕ → Type 0
IsChosen structures wanted top = (top < length structures) × Choosing structures wanted (value top)

-- what a stage comes to that chooses the top and gives a value of this kind
abbrev pub Chooses : {T : Type 0} → List Structure → Option (List ℕ) → (T → Type 0) → Outcome T PlaceFault → Type 0
Chooses structures wanted = Checks (LibraryHolds structures wanted) (library_checks structures) (library_fault structures)

-- what a plan says is true, and its top is the library's
pub record IsPlan (structures : List Structure) (layer_map : LayerMap) (wanted : Option (List ℕ)) (plan : Plan) : Type 0 where
  pub surveyed : AreSurveyed structures layer_map plan.nodes.items
  pub settled : AreSettled plan.nodes.items plan.states.items
  pub done : (one : ℕ) → one < length structures → (summary : Summary) × (state_of plan.states.items one ≡ Done summary)
  pub chosen : IsChosen structures wanted plan.top

-- the plan is one of this library, whatever top was wanted
pub record IsPlanOf (structures : List Structure) (layer_map : LayerMap) (plan : Plan) : Type 0 where
  pub wanted : Option (List ℕ)
  pub planned : IsPlan structures layer_map wanted plan
