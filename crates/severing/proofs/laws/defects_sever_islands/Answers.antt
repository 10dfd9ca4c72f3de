use Rattle.severing.proofs.OpenLaws.{severed_from_open, open_from_severed}
use Rattle.severing.proofs.laws.defects_sever_islands.Goals as goal

pub returns : goal.returns
returns c island s at anchored = (severed_from_open island s at, open_from_severed island s at anchored)
