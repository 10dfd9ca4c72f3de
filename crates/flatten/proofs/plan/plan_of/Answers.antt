use Rattle.first_refusal.proofs.AnswerLaws.{out_of_memory}
use Rattle.flatten.proofs.plan.plan_of.Goals as goal

pub returns : goal.returns
returns c = rw c.as_slice-structures.ensures at c.plan_with.ensures

pub returns-in_err-index : goal.returns-in_err-index
returns-in_err-index c = out_of_memory _ _ c.from_residual.result c.from_residual.ensures.1
