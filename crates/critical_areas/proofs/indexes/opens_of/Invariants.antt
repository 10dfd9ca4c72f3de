use Rattle.std.proofs.Common.{take}
use Rattle.lists.proofs.Words.{AllZip}
use Rattle.critical_areas.specs.inside.Indexes.{HasItsOpens}
use Rattle.critical_areas.proofs.indexes.opens_of.Given as goal

abbrev pub invariant-loop-question : goal.invariant-loop-question
invariant-loop-question l = AllZip (HasItsOpens l.asked.parts.now l.apart l.window) (take l.question-index l.asked.questions.now) l.opens.items
