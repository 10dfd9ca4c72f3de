use Rattle.std.proofs.Common.{◌≡◌, length, sym, ap, ◌∙◌, inl, inr, arith}
use Rattle.lists.proofs.Words.{cases_lt, length-replicate}
use Rattle.first_refusal.specs.Answers.{gives, refuses}
use Rattle.flatten.specs.inside.Surveys.{state_of}
use Rattle.flatten.specs.declared.fault.PlaceFault.TheVariants.{Cycle}
use Rattle.flatten.specs.declared.summary.State.TheVariants.{New}
use Rattle.flatten.proofs.SearchLaws.{nothing_surveyed}
use Rattle.flatten.proofs.LimitLaws.{at_offset}
use Rattle.first_refusal.proofs.AnswerLaws.{out_of_memory}
use Rattle.flatten.proofs.survey.survey.Goals as goal
use Rattle.lists.proofs.Reading.{put_back}

pub returns-then-not-branch-clause-answers : goal.returns-then-not-branch-clause-answers
returns-then-not-branch-clause-answers c = refuses (record {
  root = c.loop-root.root;
  is_there = c.loop-root-test.true;
  endless = rw c.if-not-branch.true at c.in_ok-survey_from.ensures.cycle;
  before = λ one h. let done = c.loop-root.invariant.done one h in let told = c.loop-root.invariant.settled.are_true one done.0 done.1 in (told.0, told.1);
  is_its_fault = ap Cycle (at_offset c.args.structures.now c.loop-root.root c.index-structures-root.result c.loop-root-test.true);
})

pub loop-root-preserved : goal.loop-root-preserved
loop-root-preserved c =
    let new = c.survey_from.new.states in
    let told = c.in_ok-survey_from.ensures in
    let same = put_back c.loop-root.states.len new c.loop-root.states.items (sym (told.long ∙ c.deref_mut.ensures.len)) in
    let kept = rw (c.if-not-branch.false, c.deref_mut.ensures.value) at told.kept in
    let here = rw c.if-not-branch.false at told.done in
    rw same (record {
      long = told.long ∙ ap length c.deref_mut.ensures.value ∙ c.loop-root.invariant.long;
      settled = rw c.if-not-branch.false at told.settled;
      done = λ one h. elim (cases_lt one c.loop-root.root) [
        | inl before ↦ let was = c.loop-root.invariant.done one before in (was.0, kept one was.0 was.1)
        | inr last ↦ let is : one ≡ c.loop-root.root = omega arith in (here.0, ap (state_of new) is ∙ here.1)
      ];
    })

pub loop-root-init : goal.loop-root-init
loop-root-init c = rw (c.in_ok-states.ensures.items_if_clones_equal (λ y e. e)) (record {
  long = length-replicate (length c.args.nodes.now) New;
  settled = nothing_surveyed c.args.nodes.now (length c.args.nodes.now);
  done = λ one h. absurd (omega arith);
})

pub returns-clause-answers : goal.returns-clause-answers
returns-clause-answers c = gives (record { settled = c.loop-root.invariant.settled; done = λ one h. c.loop-root.invariant.done one (omega arith) })

pub returns-in_err-states-clause-answers : goal.returns-in_err-states-clause-answers
returns-in_err-states-clause-answers c = out_of_memory _ _ c.from_residual.result c.from_residual.ensures.1

pub returns-in_err-survey_from-clause-answers : goal.returns-in_err-survey_from-clause-answers
returns-in_err-survey_from-clause-answers c = out_of_memory _ _ c.from_residual-in_err-survey_from.result c.from_residual-in_err-survey_from.ensures.1
