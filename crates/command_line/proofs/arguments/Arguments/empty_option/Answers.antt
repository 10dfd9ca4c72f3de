use Rattle.std.proofs.Common.{◌∙◌, sym}
use Rattle.command_line.proofs.CheckLaws.{all_full, empty_option}
use Rattle.command_line.proofs.arguments.Arguments.empty_option.Goals as goal

pub returns-then-is_empty-clause-some : goal.returns-then-is_empty-clause-some
returns-then-is_empty-clause-some c =
    empty_option c.args.self.now.options.items c.deref-name-items.result.now c.loop-name.name-index _ c.deref-name-items.ensures.value c.loop-name-test.true
    (sym c.is_empty.ensures ∙ c.if-is_empty.true)

pub returns-clause-none : goal.returns-clause-none
returns-clause-none c =
    all_full c.args.self.now.options.items c.deref-name-items.result.now c.loop-name.name-index c.deref-name-items.ensures.value c.loop-name-test.false c.loop-name.invariant
