use Rattle.std.proofs.Common.{arith}
use Rattle.lists.proofs.Words.{ints, IfSome_then}
use Rattle.gds_syntax.proofs.StepLaws.{step_leads, no_step_leads}
use Rattle.gds_syntax.proofs.arrays.step_along.Goals as goal

pub returns-clause-leads : goal.returns-clause-leads
returns-clause-leads c = step_leads c.args.from c.args.to c.args.count _ _ c.part_of.result c.part_of.ensures.whole (omega (arith, ints)) (omega (arith, ints))

pub returns-clause-short : goal.returns-clause-short
returns-clause-short c = IfSome_then c.part_of.result c.part_of.ensures.shorter (λ part shorter. omega (arith, ints))

pub returns-clause-none : goal.returns-clause-none
returns-clause-none c = no_step_leads c.args.from c.args.to c.args.count _ _ c.part_of.result c.part_of.ensures.none (omega (arith, ints)) (omega (arith, ints))
