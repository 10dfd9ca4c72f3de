use Rattle.first_refusal.specs.Answers.{gives}
use Rattle.first_refusal.specs.Checks.{all_hold}
use Rattle.std.proofs.Common.{rules}
use Rattle.flatten.proofs.ShapeLaws.{beyond, within}
use Rattle.first_refusal.proofs.AnswerLaws.{out_of_memory}
use Rattle.flatten.proofs.expansion.place_shape.Goals as goal

pub returns-then-not-are_in_range : goal.returns-then-not-are_in_range
returns-then-not-are_in_range c steps moves =
    beyond c.args.way.motion steps c.args.structure c.args.element c.args.shape.now moves c.are_in_range.result (rw c.as_slice.ensures at c.are_in_range.ensures) _ c.if-not-are_in_range.true

pub returns : goal.returns
returns c steps moves =
    let decides = rw c.as_slice.ensures at c.are_in_range.ensures in
    gives (all_hold (within c.args.way.motion steps c.args.structure c.args.element c.args.shape.now moves c.are_in_range.result decides c.if-not-are_in_range.false) (search rules))

pub returns-in_err-push : goal.returns-in_err-push
returns-in_err-push c steps moves = out_of_memory _ _ c.from_residual.result c.from_residual.ensures.1
