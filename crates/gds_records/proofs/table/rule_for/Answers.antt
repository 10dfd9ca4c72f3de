use Rattle.std.proofs.Common.{sym}
use Rattle.lists.proofs.Words.{iff_false}
use Rattle.gds_records.proofs.laws.Rules.{rule_is_for}
use Rattle.gds_records.proofs.TableLaws.{none_without_rule, none_of_other_form}
use Rattle.gds_records.proofs.table.rule_for.Goals as goal

pub returns-in_err-rule-clause-none : goal.returns-in_err-rule-clause-none
returns-in_err-rule-clause-none c = rw c.from_residual.ensures (none_without_rule c.args.kind c.args.form (sym c.in_err-rule.ensures))

pub returns-then-takes_form-clause-some : goal.returns-then-takes_form-clause-some
returns-then-takes_form-clause-some c = rule_is_for c.args.kind c.args.form c.in_ok-rule.rule (sym c.in_ok-rule.ensures) (c.takes_form.ensures.0 c.if-takes_form.true)

pub returns-else-takes_form-clause-none : goal.returns-else-takes_form-clause-none
returns-else-takes_form-clause-none c = none_of_other_form c.args.kind c.args.form c.in_ok-rule.rule (sym c.in_ok-rule.ensures) (iff_false c.takes_form.ensures c.if-takes_form.false)
