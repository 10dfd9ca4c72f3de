-- What a survey finds out about each structure, those to which it refers first: whether its references lead to an end, and
-- then what it weighs.
use Rattle.std.specs.Prelude.{ℕ, List, ◌≡◌, ◌≢◌, ◌<◌, Contains, length, slice_index_or, Vec}
use Rattle.lists.specs.Words.{Bor, Global}
use Rattle.first_refusal.specs.Outcomes.{Outcome, value, refused}
use Rattle.library_model.specs.declared.element.Reference.{Reference}
use Rattle.library_model.specs.declared.library.Structure.{Structure}
use Rattle.flatten.specs.Structures.{offset_of}
use Rattle.flatten.specs.inside.FollowedParts.{Leads}
use Rattle.flatten.specs.inside.Weights.{IsKept, Weighs, Weight}
use Rattle.flatten.specs.declared.fault.PlaceFault.{PlaceFault}
use Rattle.flatten.specs.declared.fault.PlaceFault.TheVariants.{Cycle}
use Rattle.flatten.specs.declared.part.Part.{Part}
use Rattle.flatten.specs.declared.part.Part.TheVariants.{Copies}
use Rattle.flatten.specs.declared.summary.State.{State}
use Rattle.flatten.specs.declared.summary.State.TheVariants.{New, Open, Done}
use Rattle.flatten.specs.declared.summary.Summary.{Summary}

-- how far the survey of the structure has come
abbrev pub state_of : List State → ℕ → State
state_of states one = slice_index_or states one New

-- what is said of structures that are done is true
abbrev pub AreTrue : List (Vec Part Global) → List State → Type 0
AreTrue nodes states = (one : ℕ) (summary : Summary) → state_of states one ≡ Done summary → (weight : Weight) × Weighs nodes one weight
    × IsKept weight summary

-- the structures to which the parts refer are done
abbrev pub AreDone : List State → List Part → Type 0
AreDone states parts = (reference : Bor Reference) (target : ℕ) → Contains parts (Copies reference target)
    → (summary : Summary) × (state_of states target ≡ Done summary)

-- what is kept of the weights of the structures to which the parts refer stands in the states
abbrev pub AreWeighed : List State → (ℕ → Weight) → List Part → Type 0
AreWeighed states of parts = (reference : Bor Reference) (target : ℕ) → Contains parts (Copies reference target)
    → (summary : Summary) × (state_of states target ≡ Done summary) × IsKept (of target) summary

-- what is done stays as it is
abbrev pub KeepsDone : List State → List State → Type 0
KeepsDone before after = (one : ℕ) (summary : Summary) → state_of before one ≡ Done summary → state_of after one ≡ Done summary

-- between searches: no structure is open, and what is said of those that are done is true
pub record AreSettled (nodes : List (Vec Part Global)) (states : List State) : Type 0 where
  pub are_true : AreTrue nodes states
  pub none_open : (one next : ℕ) → state_of states one ≢ Open next

-- the fault is the cycle to which this structure leads, all before it having weights
pub record IsFirstEndless (nodes : List (Vec Part Global)) (structures : List Structure) (fault : PlaceFault) : Type 0 where
  pub root : ℕ
  pub is_there : root < length structures
  pub endless : (n : ℕ) → Leads nodes n root
  pub before : (one : ℕ) → one < root → (weight : Weight) × Weighs nodes one weight
  pub is_its_fault : fault ≡ Cycle (offset_of structures root)

-- all structures are done
pub record AreAllDone (nodes : List (Vec Part Global)) (states : List State) : Type 0 where
  pub settled : AreSettled nodes states
  pub done : (one : ℕ) → one < length nodes → (summary : Summary) × (state_of states one ≡ Done summary)

-- what the survey of all structures comes to
abbrev pub SurveysAll : List (Vec Part Global) → List Structure → Outcome (Vec State Global) PlaceFault → Type 0
SurveysAll nodes structures (value states) = AreAllDone nodes states.items
SurveysAll nodes structures (refused fault) = IsFirstEndless nodes structures fault
