use Rattle.std.proofs.Common.{arith}
use Rattle.lists.proofs.Words.{ints}
use Rattle.gds_syntax.proofs.QuarterLaws.{comes_to, comes_to_none}
use Rattle.gds_syntax.proofs.references.quarters_in.Goals as goal

pub returns-in-minus360-clause-whole : goal.returns-in-minus360-clause-whole
returns-in-minus360-clause-whole c = comes_to_none c.args.degrees (λ not_back not_none. omega (arith, ints))

pub returns-in-minus270-clause-whole : goal.returns-in-minus270-clause-whole
returns-in-minus270-clause-whole c = comes_to c.args.degrees 1 (omega arith) (λ not_back. omega (arith, ints))

pub returns-in-minus180-clause-whole : goal.returns-in-minus180-clause-whole
returns-in-minus180-clause-whole c = comes_to c.args.degrees 2 (omega arith) (λ not_back. omega (arith, ints))

pub returns-in-minus90-clause-whole : goal.returns-in-minus90-clause-whole
returns-in-minus90-clause-whole c = comes_to c.args.degrees 3 (omega arith) (λ not_back. omega (arith, ints))
