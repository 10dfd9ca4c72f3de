use Rattle.std.proofs.Common.{◌≡◌, ◌∙◌, ap, length, rules, arith}
use Rattle.lists.proofs.Words.{into_iter_items}
use Rattle.first_refusal.specs.Answers.{gives}
use Rattle.first_refusal.proofs.AnswerLaws.{handed_on, out_of_memory}
use Rattle.rect_cover.specs.Coverings.{all_covered}
use Rattle.rect_cover.specs.declared.fault.CoverFault.TheVariants.{Memory}
use Rattle.rect_cover.proofs.ListedLaws.{none_listed, one_listed, refused_first, all_listed}
use Rattle.rect_cover.proofs.covering_all.all_or_first_fault.Goals as goal

pub loop-answer-init : goal.loop-answer-init
loop-answer-init c = record {
  listed = λ structures placed answered. rw (c.into_iter-answer-iterator.ensures.into_iter_gives.0, c.in_ok-lists.ensures.items) (none_listed structures placed c.args.answers.items answered);
  count = search rules;
}

pub returns-in_err-lists : goal.returns-in_err-lists
returns-in_err-lists c = λ structures placed answered. out_of_memory Memory _ c.from_residual.result c.from_residual.ensures.1

pub returns-in_err-answer : goal.returns-in_err-answer
returns-in_err-answer c = λ structures placed answered.
    let loop = c.loop-answer in
    handed_on Memory _ c.from_residual-in_err-answer.result c.in_err-answer.field-0.0 c.from_residual-in_err-answer.ensures.1
    (refused_first structures placed _ (into_iter_items c.next.new.self) loop.lists.items c.in-Some.answer c.in-Some.ensures.steps.0 (loop.invariant.listed structures placed answered) _
    c.in_err-answer.was)

pub returns-in_err-push : goal.returns-in_err-push
returns-in_err-push c = λ structures placed answered. out_of_memory Memory _ c.from_residual-in_err-push.result c.from_residual-in_err-push.ensures.1

pub loop-answer-preserved : goal.loop-answer-preserved
loop-answer-preserved c =
    let loop = c.loop-answer in
    let steps = c.in-Some.ensures.steps in
    record {
      listed = λ structures placed answered.
          one_listed structures placed _ (into_iter_items c.next.new.self) loop.lists.items c.in-Some.answer steps.0 (loop.invariant.listed structures placed answered)
          c.in_ok-answer.field-0 _ _ c.in_ok-answer.was c.from_vec.ensures c.in_ok-push.ensures.items;
      count = omega (arith, ap length steps.0, steps.1, loop.invariant.count);
    }

pub returns : goal.returns
returns c = λ structures placed answered.
    let none : length (into_iter_items c.loop-answer.answer-iterator) ≡ 0 = c.loop-answer.invariant.count ∙ c.in-None.ensures.steps.0 in
    gives (all_covered (all_listed structures placed _ c.loop-answer.lists.items none (c.loop-answer.invariant.listed structures placed answered)))
