use Rattle.critical_areas.proofs.laws.NearIslandLaws.{far_parts_none}
use Rattle.critical_areas.proofs.laws.near_islands_decide_opens.Goals as goal

pub returns : goal.returns
returns c = far_parts_none
