use Rattle.std.proofs.Common.{◌≡◌, [], All, subst, take_all}
use Rattle.lists.proofs.Words.{All-more, Contains-get_or}
use Rattle.command_line.specs.declared.option_name.OptionName.TheVariants.{Map}
use Rattle.command_line.specs.inside.Command.{values_found}
use Rattle.command_line.proofs.words.first_given.Goals as goal

pub returns-then-is_given-clause-listed : goal.returns-then-is_given-clause-listed
returns-then-is_given-clause-listed c = Contains-get_or c.args.names.now c.loop-name.name-index Map c.loop-name-test.true

pub returns-then-is_given-clause-some : goal.returns-then-is_given-clause-some
returns-then-is_given-clause-some c = rw c.if-is_given.true at c.is_given.ensures

pub loop-name-preserved : goal.loop-name-preserved
loop-name-preserved c =
    All-more (λ name. values_found c.args.matches.now name ≡ []) c.args.names.now c.loop-name.name-index Map c.loop-name-test.true c.loop-name.invariant
    (rw c.if-is_given.false at c.is_given.ensures)

pub returns-clause-none : goal.returns-clause-none
returns-clause-none c =
    subst (All (λ name. values_found c.args.matches.now name ≡ [])) (take_all c.loop-name.name-index c.args.names.now c.loop-name-test.false) c.loop-name.invariant
