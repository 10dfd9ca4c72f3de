use Rattle.std.proofs.Common.{refl}
use Rattle.layout_gen.specs.Generated.{generated_map}
use Rattle.layout_gen.proofs.maps.layer_map.Goals as goal

pub returns-clause-text : goal.returns-clause-text
unfolding generated_map
returns-clause-text c = refl

pub returns-clause-size : goal.returns-clause-size
returns-clause-size c = refl
