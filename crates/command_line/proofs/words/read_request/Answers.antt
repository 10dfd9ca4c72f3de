use Rattle.std.proofs.Common.{◌∙◌, sym}
use Rattle.lists.proofs.Words.{IfErr-weaker}
use Rattle.command_line.specs.inside.Arguments.{given_by}
use Rattle.command_line.specs.inside.WordsRefusals.{HasCause, IsFirstCause}
use Rattle.command_line.specs.WordsCauses.{IsCause}
use Rattle.command_line.proofs.AskLaws.{refused}
use Rattle.command_line.proofs.CauseLaws.{given_told, no_words_told, stop_told, values_told}
use Rattle.command_line.proofs.CheckLaws.{is_empty, is_no_empty}
use Rattle.command_line.proofs.words.read_request.Goals as goal

pub returns-then-is_empty-clause-cause : goal.returns-then-is_empty-clause-cause
returns-then-is_empty-clause-cause c = no_words_told c.args.words.now (is_empty c.args.words.now (sym c.is_empty.ensures ∙ c.if-is_empty.true))

pub returns-in_err-arguments-clause-cause : goal.returns-in_err-arguments-clause-cause
returns-in_err-arguments-clause-cause c =
    refused c.from_residual.result c.in_err-arguments.field-0.0 (HasCause (IsFirstCause (IsCause c.args.words.now))) c.from_residual.ensures.1
    (stop_told c.args.words.now c.in_err-arguments.field-0.0 c.in_err-arguments.ensures.cause)

pub returns-in_err-check-clause-cause : goal.returns-in_err-check-clause-cause
returns-in_err-check-clause-cause c =
    refused c.from_residual-in_err-check.result c.in_err-check.field-0.0 (HasCause (IsFirstCause (IsCause c.args.words.now))) c.from_residual-in_err-check.ensures.1
    (given_told c.args.words.now (is_no_empty c.args.words.now (sym c.is_empty.ensures ∙ c.if-is_empty.false)) (given_by c.in_ok-arguments.arguments) c.in_ok-arguments.ensures.read c.in_err-check.field-0.0 c.in_err-check.ensures.cause)

pub returns-clause-cause : goal.returns-clause-cause
returns-clause-cause c =
    IfErr-weaker c.request_given.result _ _
    (values_told c.args.words.now (is_no_empty c.args.words.now (sym c.is_empty.ensures ∙ c.if-is_empty.false)) (given_by c.in_ok-arguments.arguments) c.in_ok-arguments.ensures.read
    c.in_ok-check.ensures.texts c.in_ok-check.ensures.single) c.request_given.ensures.cause
