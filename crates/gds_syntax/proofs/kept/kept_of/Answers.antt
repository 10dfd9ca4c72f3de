use Rattle.std.proofs.Common.{subst, sym, map}
use Rattle.library_grammar.specs.GrammarNames.{IsCount, IsKept, has}
use Rattle.first_refusal.proofs.AnswerLaws.{handed_on}
use Rattle.library_grammar.specs.declared.fault.SyntaxFault.TheVariants.{Memory}
use Rattle.gds_syntax.specs.ElementKinds.{form_for}
use Rattle.gds_syntax.proofs.JudgedLaws.{fault_in_front, judged_whole, wrong_count}
use Rattle.gds_syntax.proofs.kept.kept_of.Goals as goal

pub returns-in_err-check_required : goal.returns-in_err-check_required
returns-in_err-check_required c =
    handed_on Memory _ c.from_residual.result c.in_err-check_required.field-0.0 c.from_residual.ensures.1
    (fault_in_front c.args.at c.args.own.now _ (map has (form_for c.args.kind).required) _ c.in_err-check_required.field-0.0 c.in_err-check_required.ensures.failed)

pub returns-then-not-takes_points : goal.returns-then-not-takes_points
returns-then-not-takes_points c =
    wrong_count c.args.at c.args.own.now (form_for c.args.kind) _ c.in_ok-check_required.ensures.passed
    (λ count. cc (c.takes_points.ensures.1 (subst (IsCount (form_for c.args.kind).points) (sym c.point_count.ensures) count), c.if-not-takes_points.true))

pub returns : goal.returns
returns c =
    judged_whole c.args.at c.args.own.now (form_for c.args.kind) (IsKept c.args.at c.args.own.now (form_for c.args.kind).opening) c.in_ok-check_required.ensures.passed c.kept_by_sort.result
    (subst (IsCount (form_for c.args.kind).points) c.point_count.ensures (c.takes_points.ensures.0 c.if-not-takes_points.false)) c.kept_by_sort.ensures
