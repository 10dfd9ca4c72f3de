use Rattle.std.proofs.Common.{ℕ, ◌≡◌, ◌<◌, length}
use Rattle.flatten.specs.inside.Surveys.{AreSettled, state_of}
use Rattle.flatten.specs.declared.summary.Summary.{Summary}
use Rattle.flatten.specs.declared.summary.State.TheVariants.{Done}
use Rattle.flatten.proofs.survey.survey.Given as goal

abbrev pub invariant-loop-root : goal.invariant-loop-root
invariant-loop-root l = record {
  long : length l.states.items ≡ length l.nodes;
  settled : AreSettled l.nodes l.states.items;
  done : (one : ℕ) → one < l.root → (summary : Summary) × (state_of l.states.items one ≡ Done summary);
}
