use Rattle.command_line.proofs.CauseLaws.{refuses}
use Rattle.command_line.proofs.words.read_words.Goals as goal

pub returns-in-Err-Words-clause-usage : goal.returns-in-Err-Words-clause-usage
returns-in-Err-Words-clause-usage c e request asks = refuses c.args.words.now request asks _ (rw c.in-Err-Words.field-0-is at c.in-Err-Words.ensures.cause).is
