use Rattle.command_line.proofs.SpellingLaws.{spellings_agree}
use Rattle.command_line.proofs.laws.spellings_agree.Goals as goal

pub returns : goal.returns
returns c = spellings_agree
