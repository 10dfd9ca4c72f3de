use Rattle.std.proofs.Common.{rules}
use Rattle.first_refusal.specs.Answers.{gives, refuses}
use Rattle.first_refusal.specs.Checks.{all_hold, one_fails}
use Rattle.first_refusal.proofs.AnswerLaws.{handed_on, out_of_memory}
use Rattle.flatten.proofs.parts.push_part.Goals as goal

pub returns-in_err-part : goal.returns-in_err-part
returns-in_err-part c = handed_on _ _ c.from_residual.result _ c.from_residual.ensures.1 (refuses (one_fails c.in_err-part.ensures.unknown))

pub returns-in_ok-push : goal.returns-in_ok-push
returns-in_ok-push c = gives (all_hold c.in_ok-part.ensures.known (search rules))

pub returns-in_default : goal.returns-in_default
returns-in_default c = gives (all_hold c.in_ok-part.ensures.known (search rules))

pub returns-in_err-push : goal.returns-in_err-push
returns-in_err-push c = out_of_memory _ _ c.from_residual-in_err-push.result c.from_residual-in_err-push.ensures.1
