use Rattle.std.proofs.Common.{◌≡◌, ◌∙◌, ap, ap₂, arith, get_or, rules, take_all}
use Rattle.lists.proofs.Words.{IfOk-weaker}
use Rattle.clap.specs.declared.builder.arg.Arg.{Arg}
use Rattle.clap.specs.Words.{app_of, rule_of, with_rule}
use Rattle.command_line.specs.inside.Command.{rule_of_option, with_options}
use Rattle.command_line.specs.declared.option_name.TheConstants.{OPTIONS}
use Rattle.command_line.specs.declared.option_name.OptionName.TheVariants.{Map}
use Rattle.command_line.proofs.MatchLaws.{one_option_more}
use Rattle.command_line.proofs.parse.command.Goals as goal

pub loop-name-preserved : goal.loop-name-preserved
loop-name-preserved c =
    let rule : rule_of c.long.result ≡ rule_of_option (get_or OPTIONS c.loop-name.name-index Map) = search rules in
    one_option_more OPTIONS c.loop-name.name-index Map _ _ _ (omega arith) c.loop-name.invariant rule
    (c.in_ok-command.ensures.shape (ap (λ (a : Arg). a.global) c.long.ensures ∙ c.new-in-loop-name.ensures.optional.1))

pub returns : goal.returns
returns c =
    let before : app_of c.loop-name.command ≡ with_options OPTIONS = rw (take_all c.loop-name.name-index OPTIONS c.loop-name-test.false) at c.loop-name.invariant in
    IfOk-weaker c.arg-2.result _ _ (λ more adds. adds.shape c.new-2.ensures.optional.1 ∙ ap₂ with_rule before c.new-2.ensures.rule) c.arg-2.ensures
