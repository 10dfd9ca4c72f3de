use Rattle.std.proofs.Common.{◌≡◌, [], All, subst, take_all}
use Rattle.lists.proofs.Words.{All-more}
use Rattle.command_line.specs.declared.option_name.OptionName.TheVariants.{Map}
use Rattle.command_line.specs.inside.Command.{values_found}
use Rattle.command_line.proofs.AloneLaws.{first_at}
use Rattle.command_line.proofs.words.first_and_behind.Goals as goal

pub returns-then-is_given-clause-some : goal.returns-then-is_given-clause-some
returns-then-is_given-clause-some c =
    first_at (values_found c.args.matches.now) c.args.names.now c.loop-k.k Map c.loop-k-test.true c.loop-k.invariant
    (rw c.if-is_given.true at c.is_given.ensures)

pub returns-clause-none : goal.returns-clause-none
returns-clause-none c =
    subst (All (λ name. values_found c.args.matches.now name ≡ [])) (take_all c.loop-k.k c.args.names.now c.loop-k-test.false) c.loop-k.invariant

pub loop-k-preserved : goal.loop-k-preserved
loop-k-preserved c =
    All-more (λ name. values_found c.args.matches.now name ≡ []) c.args.names.now c.loop-k.k Map c.loop-k-test.true c.loop-k.invariant
    (rw c.if-is_given.false at c.is_given.ensures)
