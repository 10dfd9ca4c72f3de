use Rattle.flatten.proofs.PlacedLists as laws
use Rattle.flatten.proofs.laws.placed_shapes_exist.Goals as goal

pub returns : goal.returns
returns c structures layer_map wanted routes placing = laws.placed_shapes_exist layer_map structures wanted routes placing
