use Rattle.std.proofs.Common.{◌+◌, take, sym, subst}
use Rattle.lists.proofs.Words.{AllZip}
use Rattle.lists.proofs.Pairing.{AllZip-more}
use Rattle.critical_areas.specs.inside.Indexes.{HasItsOpens}
use Rattle.critical_areas.proofs.indexes.opens_of.Goals as goal

pub loop-question-preserved : goal.loop-question-preserved
loop-question-preserved c =
    let Opens = HasItsOpens c.args.asked.parts.now c.args.apart.now c.args.window in
    let questions = c.args.asked.questions.now in
    let i = c.loop-question.question-index in
    subst (AllZip Opens (take (i + 1) questions)) (sym c.in_ok-push.ensures.items)
    (AllZip-more Opens questions c.loop-question.opens.items i c.question-item.result c.in_ok-opens_for.field-0 c.loop-question-test.true c.question-item.is c.loop-question.invariant
    (λ kind. c.in_ok-opens_for.ensures kind))
