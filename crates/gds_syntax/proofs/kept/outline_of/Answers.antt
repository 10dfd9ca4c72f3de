use Rattle.std.proofs.Common.{◌≡◌, ◌∙◌, [], sym, subst}
use Rattle.library_grammar.specs.GrammarNames.{points_of, IsClosed, gives, all_hold, is_closed, ElementCheck, ElementHolds, element_fault}
use Rattle.lists.proofs.Words.{All-nil, All-cons}
use Rattle.first_refusal.proofs.JudgeLaws.{fails_first}
use Rattle.first_refusal.proofs.AnswerLaws.{out_of_memory}
use Rattle.gds_syntax.proofs.kept.outline_of.Goals as goal

pub returns-then-not-is_closed : goal.returns-then-not-is_closed
returns-then-not-is_closed c =
    let points : c.as_slice.result.now ≡ points_of c.args.own.now = c.as_slice.ensures ∙ c.in_ok-shape.ensures.has_points in
    fails_first (ElementHolds c.args.own.now) (element_fault c.args.at) _ is_closed [] (λ closed. cc (c.is_closed.ensures.1 (subst IsClosed (sym points) closed), c.if-not-is_closed.true))

pub returns : goal.returns
returns c =
    let points : c.as_slice.result.now ≡ points_of c.args.own.now = c.as_slice.ensures ∙ c.in_ok-shape.ensures.has_points in
    let Holds : ElementCheck → Type 0 = ElementHolds c.args.own.now in
    gives (all_hold (All-cons Holds is_closed [] (subst IsClosed points (c.is_closed.ensures.0 c.if-not-is_closed.false)) (All-nil Holds)) c.in_ok-shape.ensures)

pub returns-in_err-shape : goal.returns-in_err-shape
returns-in_err-shape c = out_of_memory _ _ c.from_residual.result c.from_residual.ensures.1
