use Rattle.std.proofs.Common.{ℕ, ◌≡◌, drop}
use Rattle.flatten.specs.inside.Weights.{Weight, IsKept, both_weights, weight_over}
use Rattle.flatten.specs.inside.Surveys.{AreWeighed}
use Rattle.flatten.proofs.summing.summary_of.Given as goal

abbrev pub invariant-loop-part : goal.invariant-loop-part
invariant-loop-part l = (of : ℕ → Weight) → AreWeighed l.states of l.parts
    → (weight : Weight) × IsKept weight l.summary × (both_weights weight (weight_over of (drop l.part-index l.parts)) ≡ weight_over of l.parts)
