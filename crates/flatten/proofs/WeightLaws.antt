-- weights of parts
use Rattle.std.proofs.Common.{ℕ, ◌+◌, ◌≤◌, ◌<◌, ◌≡◌, List, [], ◌∷◌, length, get_or, drop, sym, subst, ◌∙◌, arith, Contains}
use Rattle.lists.proofs.Words.{Bor, drop_all, drop_more}
use Rattle.library_model.specs.declared.element.Reference.{Reference}
use Rattle.flatten.specs.declared.part.Part.{Part}
use Rattle.flatten.specs.declared.part.Part.TheVariants.{Copies}
use Rattle.flatten.specs.declared.summary.State.{State}
use Rattle.flatten.specs.inside.FollowedParts.{AreBelow}
use Rattle.flatten.specs.inside.Weights.{Weight, no_weight, both_weights, weight_of, weight_over}
use Rattle.flatten.specs.inside.Surveys.{AreWeighed}
use Rattle.lists.proofs.Containing.{Contains-one}

-- equal numbers, equal weights
pub same_weights : (h h' s s' p p' : ℕ) → h ≡ h' → s ≡ s' → p ≡ p'
    → let one : Weight = record { height = h; shapes = s; points = p } in let other : Weight = record { height = h'; shapes = s'; points = p' } in one ≡ other
same_weights h h' s s' p p' e f g = cc

pub nothing_first : (weight : Weight) → both_weights no_weight weight ≡ weight
nothing_first weight = same_weights _ weight.height _ weight.shapes _ weight.points (omega arith) (omega arith) (omega arith)

pub nothing_last : (weight : Weight) → both_weights weight no_weight ≡ weight
nothing_last weight = same_weights _ weight.height _ weight.shapes _ weight.points (omega arith) (omega arith) (omega arith)

regrouped : (a b c : Weight) → both_weights (both_weights a b) c ≡ both_weights a (both_weights b c)
regrouped a b c = same_weights _ _ _ _ _ _ (omega arith) (omega arith) (omega arith)

module _ (of : ℕ → Weight) (parts : List Part) (i : ℕ) (weight : Weight) (all : Weight) (before : both_weights weight (weight_over of (drop i parts)) ≡ all) where
  -- one part more
  pub weight_more : (part : Part) → i < length parts → part ≡ get_or parts i part → both_weights (both_weights weight (weight_of of part)) (weight_over of (drop (i + 1) parts)) ≡ all
  weight_more part more is = regrouped weight (weight_of of part) (weight_over of (drop (i + 1) parts)) ∙ (rw (drop_more parts i part more, ← is) at before)

  -- and past the last
  pub weight_all : length parts ≤ i → weight ≡ all
  weight_all past = sym (nothing_last weight) ∙ (rw (drop_all i parts past) at before)

-- what is known of parts is known of one
module _ (parts : List Part) (i : ℕ) (part : Part) (more : i < length parts) (is : part ≡ get_or parts i part) where
  one_there : (reference : Bor Reference) (target : ℕ) → Contains (part ∷ []) (Copies reference target) → Contains parts (Copies reference target)
  one_there reference target there = subst (Contains parts) (Contains-one part (Copies reference target) there) (i, more, sym is)

  pub below_one : (count : ℕ) → AreBelow count parts → AreBelow count (part ∷ [])
  below_one count below reference target there = below reference target (one_there reference target there)

  pub weighed_one : (states : List State) (of : ℕ → Weight) → AreWeighed states of parts → AreWeighed states of (part ∷ [])
  weighed_one states of weighed reference target there = weighed reference target (one_there reference target there)
