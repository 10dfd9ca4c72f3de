use Rattle.std.proofs.Common.{arith}
use Rattle.lists.proofs.Words.{ints}
use Rattle.gds_syntax.proofs.ArrayLaws.{array_checks_hold, fault_where_empty, fault_where_uneven}
use Rattle.gds_syntax.proofs.arrays.lattice_of.Goals as goal

pub returns-then-columns-lt1-clause-failed : goal.returns-then-columns-lt1-clause-failed
returns-then-columns-lt1-clause-failed c = fault_where_empty c.args.own.now c.args.at (λ (columns, rows). omega (arith, ints))

pub returns-in-None-clause-failed : goal.returns-in-None-clause-failed
returns-in-None-clause-failed c =
    fault_where_uneven c.args.own.now c.args.at (omega (arith, ints)) (omega (arith, ints)) c.in-None.ensures.none

pub returns-in-Some-clause-passed : goal.returns-in-Some-clause-passed
returns-in-Some-clause-passed c =
    array_checks_hold c.args.own.now c.in-Some.column_step c.in-Some.row_step (omega (arith, ints)) (omega (arith, ints)) c.in-Some.ensures.steps

pub returns-in-Some-clause-lattice : goal.returns-in-Some-clause-lattice
returns-in-Some-clause-lattice c = record {
  columns = omega (arith, ints);
  rows = omega (arith, ints);
  steps = c.in-Some.ensures.steps;
}
