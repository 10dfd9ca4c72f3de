use Rattle.gds_records.specs.KindNames.{kind_names}
use Rattle.gds_records.proofs.NameLaws.{name_read, no_name_above, text_read}
use Rattle.gds_records.proofs.names.kind_name.Goals as goal

pub returns-then-number-lt60 : goal.returns-then-number-lt60
unfolding kind_names
returns-then-number-lt60 c = rw text_read (name_read c.from-number.result c.args.kind _ c.from-number.ensures c.if-number-lt60.true)

pub returns-else-number-lt60 : goal.returns-else-number-lt60
returns-else-number-lt60 c = no_name_above c.from-number.result c.args.kind c.from-number.ensures c.if-number-lt60.false
