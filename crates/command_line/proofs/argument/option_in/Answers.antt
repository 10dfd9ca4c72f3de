use Rattle.std.proofs.Common.{◌∷◌, ◌∙◌, ap, sym}
use Rattle.command_line.specs.OptionNames.{Text}
use Rattle.command_line.proofs.OptionLaws.{name_alone, name_before, no_name_alone, no_name_before}
use Rattle.command_line.proofs.argument.option_in.Goals as goal

pub returns-in_ok-of-in-None-clause-some : goal.returns-in_ok-of-in-None-clause-some
returns-in_ok-of-in-None-clause-some c =
    name_alone c.args.word.now c.in_ok-body.body.now (c.in_ok-body.ensures.cases.1.1 ∙ ap (λ (t : Text). 45 ∷ 45 ∷ t) (sym c.in_ok-body.ensures.cases.2))
    c.in-None.ensures.cases c.in_ok-of-in-None.field-0 c.in_ok-of-in-None.ensures.some

pub returns-in_err-of-in-None-clause-none : goal.returns-in_err-of-in-None-clause-none
returns-in_err-of-in-None-clause-none c =
    rw c.from_residual-in_err-of-in-None.ensures
    (no_name_alone c.args.word.now c.in_ok-body.body.now (c.in_ok-body.ensures.cases.1.1 ∙ ap (λ (t : Text). 45 ∷ 45 ∷ t) (sym c.in_ok-body.ensures.cases.2))
    c.in-None.ensures.cases c.in_err-of-in-None.ensures.none)

pub returns-in_ok-of-in-Some-clause-some : goal.returns-in_ok-of-in-Some-clause-some
returns-in_ok-of-in-Some-clause-some c =
    name_before c.args.word.now c.in_ok-body.body.now (c.in_ok-body.ensures.cases.1.1 ∙ ap (λ (t : Text). 45 ∷ 45 ∷ t) (sym c.in_ok-body.ensures.cases.2))
    c.in-Some.name c.in-Some.value c.in-Some.ensures.cases c.in_ok-of-in-Some.field-0 c.in_ok-of-in-Some.ensures.some

pub returns-in_err-of-in-Some-clause-none : goal.returns-in_err-of-in-Some-clause-none
returns-in_err-of-in-Some-clause-none c =
    rw c.from_residual-in_err-of-in-Some.ensures
    (no_name_before c.args.word.now c.in_ok-body.body.now (c.in_ok-body.ensures.cases.1.1 ∙ ap (λ (t : Text). 45 ∷ 45 ∷ t) (sym c.in_ok-body.ensures.cases.2))
    c.in-Some.name c.in-Some.value c.in-Some.ensures.cases c.in_err-of-in-Some.ensures.none)
