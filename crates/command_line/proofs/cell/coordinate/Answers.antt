use Rattle.std.proofs.Common.{Some, None, arith}
use Rattle.std.proofs.lemmas.Str.Pattern.{strip_prefix_char}
use Rattle.command_line.proofs.CellLaws.{dashed_is, no_number, number_is}
use Rattle.command_line.proofs.cell.coordinate.Goals as goal

pub returns-in_ok-number-in-None-clause-some : goal.returns-in_ok-number-in-None-clause-some
returns-in_ok-number-in-None-clause-some c = number_is c.args.text.now c.in_ok-number-in-None.field-0 c.in_ok-number-in-None.ensures.some

pub returns-in_err-number-in-None-clause-none : goal.returns-in_err-number-in-None-clause-none
returns-in_err-number-in-None-clause-none c =
    rw c.from_residual.ensures (no_number c.args.text.now (strip_prefix_char 45 c.args.text.now None c.in-None.ensures.cases (omega arith)) c.in_err-number-in-None.ensures.none)

pub returns-in_ok-number-in-Some-clause-some : goal.returns-in_ok-number-in-Some-clause-some
returns-in_ok-number-in-Some-clause-some c =
    dashed_is c.args.text.now c.in-Some.digits.now c.in_ok-number-in-Some.field-0
    (strip_prefix_char 45 c.args.text.now (Some c.in-Some.digits) c.in-Some.ensures.cases (omega arith)) c.in_ok-number-in-Some.ensures.some
