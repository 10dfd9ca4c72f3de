-- what each stage of a plan comes to, by the names that the index has
use Rattle.std.proofs.Common.{ℕ, ◌≡◌, ◌<◌, List, length, Vec, Option, Ok, Err, arith, All}
use Rattle.lists.proofs.Words.{Global, AllZip-long}
use Rattle.first_refusal.specs.Answers.{Answers, gives, refuses, no_memory}
use Rattle.library_model.specs.Names.{names_of}
use Rattle.library_model.specs.declared.library.Structure.{Structure}
use Rattle.map_model.specs.MapNames.{LayerMap}
use Rattle.flatten.specs.Structures.{all_references}
use Rattle.flatten.specs.ReferenceChains.{IsEndless}
use Rattle.flatten.specs.inside.FollowedParts.{AreNodes, IsKnown, AreNodesBelow}
use Rattle.flatten.specs.inside.Surveys.{AreAllDone, SurveysAll}
use Rattle.flatten.specs.inside.Plans.{AreSurveyed, Chooses}
use Rattle.flatten.specs.declared.part.Part.{Part}
use Rattle.flatten.specs.declared.summary.State.{State}
use Rattle.flatten.specs.declared.fault.PlaceFault.{PlaceFault}
use Rattle.flatten.specs.declared.fault.PlaceFault.TheVariants.{Memory}
use Rattle.flatten.proofs.GraphLaws.{chains_end, starts_chain, target_within}
use Rattle.flatten.proofs.ChoiceLaws.{cycle_refused}

module _ (structures : List Structure) (layer_map : LayerMap) (nodes : List (Vec Part Global)) (are_nodes : AreNodes (names_of structures) layer_map structures nodes) where
  pub nodes_long : length nodes ≡ length structures
  nodes_long = AllZip-long _ structures nodes are_nodes

  pub nodes_below : AreNodesBelow (length nodes) nodes
  nodes_below one reference target there = let h = target_within structures layer_map nodes are_nodes one target (reference, there) in omega (arith, nodes_long)

  module _ (known : All (IsKnown (names_of structures)) (all_references structures)) where
    pub cycle_of : {T : Type 0} (wanted : Option (List ℕ)) (Is : T → Type 0) (fault : PlaceFault) → Answers Memory (SurveysAll nodes structures) (Err fault)
        → Answers Memory (Chooses structures wanted Is) (Err fault)
    cycle_of wanted Is _ no_memory = no_memory
    cycle_of wanted Is fault (refuses first) =
        rw first.is_its_fault (cycle_refused structures wanted Is known first.root first.is_there (λ n. starts_chain structures layer_map nodes are_nodes n first.root (first.endless n))
        (λ one h. let w = first.before one h in chains_end structures layer_map nodes are_nodes one w.0 w.1))

    pub surveyed_of : (states : List State) → AreAllDone nodes states → AreSurveyed structures layer_map nodes
    surveyed_of states told = record {
      nodes_are = are_nodes;
      below = nodes_below;
      known = known;
      weighed = λ one h. let d = told.done one (omega (arith, nodes_long)) in let weight = told.settled.are_true one d.0 d.1 in (weight.0, weight.1);
    }

    pub all_end : (states : List State) → AreAllDone nodes states → (one : ℕ) → one < length structures → IsEndless structures one → ⊥
    all_end states told one within = let w = (surveyed_of states told).weighed one within in chains_end structures layer_map nodes are_nodes one w.0 w.1

pub done_by : {structures : List Structure} {nodes : List (Vec Part Global)} {states : Vec State Global} → Answers Memory (SurveysAll nodes structures) (Ok states) → AreAllDone nodes states.items
done_by (gives done) = done
