use Rattle.std.proofs.Common.{ap, take_all, ◌∙◌, ◌++◌}
use Rattle.map_model.specs.MapNames.{sizes_of}
use Rattle.lists.proofs.Reading.{gained_more, mapped_at}
use Rattle.questions.specs.Questions.{of_sizes, question_of}
use Rattle.questions.proofs.MapReading.{size_at, past_sizes}
use Rattle.questions.proofs.question.ask.Goals as goal

pub loop-k-preserved : goal.loop-k-preserved
loop-k-preserved c =
    let given = c.args.map.now in
    let at = size_at given.sizes given.weights given.are_weights.as_many c.loop-k.k _ _ c.as_slice-size-items.ensures c.as_slice.ensures c.loop-k-test.true in
    gained_more _ _ _ _ _ _ c.loop-k.invariant c.in_ok-push.ensures.items (mapped_at (question_of c.args.kind c.args.number c.args.layer given.measure) (sizes_of given.sizes given.weights) c.loop-k.k _ at)

pub returns : goal.returns
returns c =
    let given = c.args.map.now in
    let sizes = sizes_of given.sizes given.weights in
    c.loop-k.invariant ∙ ap (λ some. c.args.asked.now.items ++ of_sizes c.args.kind c.args.number c.args.layer given.measure some)
    (take_all c.loop-k.k sizes (past_sizes given.sizes given.weights given.are_weights.as_many c.loop-k.k _ c.as_slice-size-items.ensures c.loop-k-test.false))
