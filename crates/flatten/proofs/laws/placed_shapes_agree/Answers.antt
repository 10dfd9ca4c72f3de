use Rattle.flatten.proofs.PlacedLists as laws
use Rattle.flatten.proofs.laws.placed_shapes_agree.Goals as goal

pub returns : goal.returns
returns c structures layer_map wanted differ = laws.placed_shapes_agree layer_map differ structures wanted
