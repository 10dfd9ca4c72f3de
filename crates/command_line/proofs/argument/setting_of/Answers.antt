use Rattle.std.proofs.Common.{◌∷◌, ◌∙◌, ap, refl, sym}
use Rattle.command_line.proofs.ReadingLaws.{dashed_first, name_first, no_option_first, no_value_first, whole_first}
use Rattle.command_line.proofs.argument.setting_of.Goals as goal

pub returns-in_default-clause-cause : goal.returns-in_default-clause-cause
returns-in_default-clause-cause c =
    no_option_first _ c.args.rest.now c.args.word.now _ refl c.requires.not_plain c.requires.not_last c.in_default.ensures.none c.in_ok-name_from.ensures

pub returns-in-Some-value-clause-argument : goal.returns-in-Some-value-clause-argument
returns-in-Some-value-clause-argument c =
    whole_first _ c.args.rest.now c.args.word.now c.in-Some.name c.in-Some-value.value refl (rw c.in-Some-value.is at c.in-Some.ensures.some)

pub returns-in_default-split_first-clause-cause : goal.returns-in_default-split_first-clause-cause
returns-in_default-split_first-clause-cause c =
    no_value_first _ c.args.rest.now c.args.word.now c.in-Some.name refl c.in_default-split_first.ensures.cases (rw c.in_default-value.is at c.in-Some.ensures.some)

pub returns-then-not-is_plain-clause-cause : goal.returns-then-not-is_plain-clause-cause
returns-then-not-is_plain-clause-cause c =
    dashed_first _ c.args.rest.now c.in-Some-split_first.rest.now c.args.word.now c.as_str-value.result.now _ c.in-Some.name refl
    (c.in-Some-split_first.ensures.cases.0 ∙ ap (λ v. v ∷ c.in-Some-split_first.rest.now) (sym c.as_str-value.ensures))
    (rw c.in_default-value.is at c.in-Some.ensures.some) (λ plain. let s = sym (c.is_plain.ensures.1 plain) ∙ c.if-not-is_plain.true in cc s) c.in_ok-value.ensures

pub returns-clause-argument : goal.returns-clause-argument
returns-clause-argument c =
    name_first _ c.args.rest.now c.in-Some-split_first.rest.now c.args.word.now c.in-Some.name c.as_str-value.result refl
    (c.in-Some-split_first.ensures.cases.0 ∙ ap (λ v. v ∷ c.in-Some-split_first.rest.now) (sym c.as_str-value.ensures))
    (rw c.in_default-value.is at c.in-Some.ensures.some) (c.is_plain.ensures.0 c.if-not-is_plain.false)
