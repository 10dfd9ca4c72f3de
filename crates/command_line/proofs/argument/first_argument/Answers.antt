use Rattle.std.proofs.Common.{List, IfErr, IfOk, MatchOption, ◌∷◌, ◌∙◌, sym, ap, subst, codes}
use Rattle.lists.proofs.Words.{bytes_eq-Decides}
use Rattle.command_line.specs.inside.Arguments.{AreLast, BeginWith}
use Rattle.command_line.specs.inside.WordsRefusals.{HasCause}
use Rattle.command_line.specs.OptionNames.{Text}
use Rattle.command_line.specs.WordsCauses.{BeginWithNone}
use Rattle.command_line.proofs.ReadingLaws.{dashes_are_last, position_first}
use Rattle.command_line.proofs.argument.first_argument.Goals as goal

pub returns-then-is_plain-clause-argument : goal.returns-then-is_plain-clause-argument
returns-then-is_plain-clause-argument c = position_first c.args.words.now c.in-Some.rest.now c.as_str-word.result (c.in-Some.ensures.cases.0 ∙ ap (λ w. w ∷ c.in-Some.rest.now) (sym c.as_str-word.ensures)) (c.is_plain.ensures.0 c.if-is_plain.true)

pub returns-then-eq-clause-argument : goal.returns-then-eq-clause-argument
returns-then-eq-clause-argument c = dashes_are_last c.args.words.now c.in-Some.rest.now c.as_str-word.result.now (c.in-Some.ensures.cases.0 ∙ ap (λ w. w ∷ c.in-Some.rest.now) (sym c.as_str-word.ensures)) c.if-eq.ensures

pub setting_of-requires-clause-not_plain : goal.setting_of-requires-clause-not_plain
setting_of-requires-clause-not_plain c plain = let s = sym (c.is_plain.ensures.1 plain) ∙ c.if-is_plain.false in cc s

pub setting_of-requires-clause-not_last : goal.setting_of-requires-clause-not_last
setting_of-requires-clause-not_last c dashes = let s = c.if-eq.ensures ∙ (bytes_eq-Decides c.as_str-word.result.now (codes "--")).1 dashes in cc s

pub returns-clause-argument : goal.returns-clause-argument
returns-clause-argument c =
    subst (λ (words : List Text). IfOk c.setting_of.result (λ first. MatchOption first (AreLast words) (λ found. BeginWith words found.0 found.1.now)))
    (ap (λ w. w ∷ c.in-Some.rest.now) c.as_str-word.ensures ∙ sym c.in-Some.ensures.cases.0) c.setting_of.ensures.argument

pub returns-clause-cause : goal.returns-clause-cause
returns-clause-cause c =
    subst (λ (words : List Text). IfErr c.setting_of.result (HasCause (BeginWithNone words)))
    (ap (λ w. w ∷ c.in-Some.rest.now) c.as_str-word.ensures ∙ sym c.in-Some.ensures.cases.0) c.setting_of.ensures.cause
