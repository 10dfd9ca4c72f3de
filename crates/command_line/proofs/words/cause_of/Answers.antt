use Rattle.command_line.proofs.words.cause_of.Goals as goal

pub returns-in-Ok-clause-cause : goal.returns-in-Ok-clause-cause
returns-in-Ok-clause-cause c = (c.in-Ok.field-0, c.in-Ok.ensures.request)

pub returns-in-Err-Words-clause-cause : goal.returns-in-Err-Words-clause-cause
returns-in-Err-Words-clause-cause c = (rw c.in-Err-Words.field-0-is at c.in-Err-Words.ensures.cause).is

pub returns-in-Err-Words-clause-first : goal.returns-in-Err-Words-clause-first
returns-in-Err-Words-clause-first c = (rw c.in-Err-Words.field-0-is at c.in-Err-Words.ensures.cause).first
