use Rattle.std.proofs.Common.{◌*◌}
use Rattle.lists.proofs.Words.{take_rest}
use Rattle.gds_records.proofs.fields.u16_at.Goals as goal

pub returns : goal.returns
returns c = rw (take_rest c.args.rec.now.body.now (2 * c.args.k)) at c.read_u16.ensures
