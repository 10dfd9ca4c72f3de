use Rattle.std.proofs.Common.{sym, ◌∙◌}
use Rattle.command_line.proofs.CheckLaws.{all_words_full, empty_word, one_more_full}
use Rattle.command_line.proofs.arguments.Arguments.has_empty_position.Goals as goal

pub returns-then-is_empty : goal.returns-then-is_empty
returns-then-is_empty c =
    empty_word c.args.self.now.positions.items c.deref-word-items.result.now c.deref-word-items.ensures.value c.loop-word.word-index _ c.loop-word-test.true
    (sym c.is_empty.ensures ∙ c.if-is_empty.true)

pub loop-word-preserved : goal.loop-word-preserved
loop-word-preserved c =
    one_more_full c.args.self.now.positions.items c.deref-word-items.result.now c.deref-word-items.ensures.value c.loop-word.word-index _ c.loop-word-test.true
    (sym c.is_empty.ensures ∙ c.if-is_empty.false) c.loop-word.invariant

pub returns : goal.returns
returns c =
    all_words_full c.args.self.now.positions.items c.deref-word-items.result.now c.deref-word-items.ensures.value c.loop-word.word-index c.loop-word-test.false c.loop-word.invariant
