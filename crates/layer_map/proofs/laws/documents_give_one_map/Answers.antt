use Rattle.layer_map.proofs.UniqueLaws.{maps_tell}
use Rattle.layer_map.proofs.laws.documents_give_one_map.Goals as goal

pub returns : goal.returns
returns c = maps_tell
