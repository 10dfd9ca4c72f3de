use Rattle.std.proofs.Common.{rules, arith}
use Rattle.command_line.proofs.number.number.Goals as goal

pub returns-clause-some : goal.returns-clause-some
returns-clause-some c = record {
  few = omega arith;
  digits = search rules;
  value = search rules;
  least = c.if-value-range.false;
  most = c.if-value-range-2.false;
}
