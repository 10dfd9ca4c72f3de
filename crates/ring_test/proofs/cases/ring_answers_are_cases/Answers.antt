use Rattle.ring_test.proofs.CaseLaws.{answers_agree, answers_cannot_lack}
use Rattle.ring_test.proofs.cases.ring_answers_are_cases.Goals as goal

pub returns-clause-one : goal.returns-clause-one
returns-clause-one c = answers_agree

pub returns-clause-some : goal.returns-clause-some
returns-clause-some c = answers_cannot_lack
