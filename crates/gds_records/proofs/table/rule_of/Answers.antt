use Rattle.gds_records.proofs.TableLaws.{rule_in_constants, no_rule_above}
use Rattle.gds_records.proofs.table.rule_of.Goals as goal

pub returns-then-number-lt60 : goal.returns-then-number-lt60
returns-then-number-lt60 c = rule_in_constants c.from-number.result c.args.kind _ c.from-number.ensures c.if-number-lt60.true

pub returns-else-number-lt60 : goal.returns-else-number-lt60
returns-else-number-lt60 c = no_rule_above c.from-number.result c.args.kind c.from-number.ensures c.if-number-lt60.false
