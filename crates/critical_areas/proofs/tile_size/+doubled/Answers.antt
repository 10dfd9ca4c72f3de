use Rattle.critical_areas.proofs.LengtheningLaws.{doubled_once_more}
use Rattle.critical_areas.proofs.tile_size.+doubled.Goals as goal

pub returns-clause-edge : goal.returns-clause-edge
returns-clause-edge t c = doubled_once_more c.args.edge c.doubled.result c.doubled.ensures.edge
